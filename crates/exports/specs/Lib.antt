pub mod TimeCacheC
