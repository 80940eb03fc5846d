pub mod PointLaws
pub mod Results
pub mod RuleLaws
pub mod StepLaws
pub mod WholeTimeLaws
