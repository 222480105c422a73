-- Laws on plain values. ThenLaws: what is found in the settled state. SizeLaws: the numbers of entries. NoneDueLaws: where no row is due. FewLaws: the numbers are within the limits.
pub mod ThenLaws
pub mod SizeLaws
pub mod NoneDueLaws
pub mod FewLaws
