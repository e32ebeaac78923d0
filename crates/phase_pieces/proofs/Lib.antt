pub mod CutLaws
pub mod TogetherLaws
