pub mod NearestLaws
pub mod ListLaws
