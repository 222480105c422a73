pub mod TimeCacheCLaws
