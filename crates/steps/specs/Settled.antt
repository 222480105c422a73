pub mod Then
