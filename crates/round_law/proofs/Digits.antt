-- The digits of a number, for the functions that unfold them.
pub use Rattle.std.specs.Fmt.{digits}
