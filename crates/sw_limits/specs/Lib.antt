pub mod Boundary
pub mod BoundaryLaws
pub mod ParamLaws
pub mod Params
