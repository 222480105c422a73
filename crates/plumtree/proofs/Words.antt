-- The words of the crates below that the proofs of this crate use most, passed on.
pub use Rattle.blake3.specs.Blake3.{identifier}
pub use Rattle.block.specs.View.{limits_of, settings_of, state_of}
pub use Rattle.block.specs.declared.head.Limits.{Limits}
pub use Rattle.block.specs.declared.head.Settings.{Settings}
pub use Rattle.whole.specs.Stats.{counts_of}
pub use Rattle.machine.specs.Called.{Called, Finds, Lent, call_of, lent}
pub use Rattle.protocol.specs.Answer.{Answer, Call, Outcome, accept, accepted, answer_block, ask_whole, output_of, refuse, refused}
pub use Rattle.protocol.specs.State.{Counts, Created, State, block_need, create, created, durations_in_range, fresh, limits_in_range, not_created, size_in_range, zero_counts}
pub use Rattle.std.proofs.Common.{Bool, List, None, Option, Some, [], add-suc, add-zero, ap, arith, drop, eq-eqb, eqb, eqb-true, false, get_or, get_or-set_other, get_or-set_same, if◌then◌else◌, le-leb, le_of_suc-le-suc, leb, leb-false, leb-true, length, ltb, map, ne_eqb, not, not-suc-le-zero, refl, replicate, rules, set, subst, suc, sym, take, true, zero, ℕ, ◌&&◌, ◌*◌, ◌++◌, ◌+◌, ◌<◌, ◌||◌, ◌∙◌, ◌∷◌, ◌≡◌, ◌≤◌}
pub use Rattle.storage.proofs.ListsLaws.MapLaws.{and_intro, and_left, and_right, cases, true≢}
pub use Rattle.whole.proofs.HeldLaws.{Wholly, ceilings_of, wholly_of}
