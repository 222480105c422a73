pub mod EncodeLaws
pub mod ReaderLaws
pub mod RewriteLaws
