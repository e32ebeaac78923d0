pub mod GatheredLaws
