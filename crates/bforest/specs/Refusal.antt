-- Why a call that takes nodes failed.
pub use Rattle.bforest_core.specs.declared.pool.OutOfMemory.{OutOfMemory}
pub use Rattle.bforest_core.specs.declared.pool.OutOfMemory.TheVariants.{Full, Memory}
