pub mod PieceLaws
pub mod NameLaws
pub mod ScanLaws
