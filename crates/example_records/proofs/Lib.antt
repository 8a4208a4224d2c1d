pub mod CommandLaws
pub mod HexLaws
pub mod Showing
