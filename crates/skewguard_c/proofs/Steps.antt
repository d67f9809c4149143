-- The names that the walks of this crate cite.
pub use Rattle.std.proofs.Common.{◌≡◌, ℕ, List, [], ◌∷◌, refl, sym, ap, subst, ◌∙◌, w8, w32, w64}
pub use Rattle.std.proofs.raw_atomic.Walks.{proved, leaves}
pub use mathlib.Core.Logic.{inl, inr}
pub use base.Fraction.{full_share}
pub use base.Logic.{id⊢, fst∗, never}
pub use base.Fml.{Lft, GName, Fml, ftrue, flft, flent, fsep}
pub use mir.Syntax.{named}
pub use mir.Val.{Val, vunit, vint, vptr}
pub use mir.Raw.{raw as bare}
pub use prog.Wp.{WpFn}
pub use types.Logic.{sem}
pub use types.SemTy.{Body}
pub use contract.Monad.{fact}
pub use contract.Running.{tables}
pub use types.Kit.{Item, ‵, raw, ◌⊛◌, some, later, prop, at_ret, ◌$◌, ◌∵◌, !, qed, by, move, keep, drop, use1, use2, use3, split, split3, join, fsplit, fjoin, fpack, feq_i, feq_l, pick, await, rewrite, regoal, group}
pub use types.Run.{enter, of_opd, lit, unit_lit, addr, load, look, store, stop, from, fld, hop, no_more, and_then, assigns, first, blocks, exec, returns}
pub use types.ByLocal.{alloc_all, pass_all, free_all, look_at, look_in_at, get, get_in, through, sets, sets_last, lands_as, lands_last, env}
pub use types.Part.{agg, sub, whole}
pub use types.Tokens.{lft_new, lft_end}
pub use denote.Builtin.{u8, u32, usize, i32, unit}
pub use denote.Exit.{yes, no}
pub use denote.Laws.{Is, shows}
pub use denote.Lend.{lends_ref, ref_back}
pub use denote.Memory.{mem, part_at, lone}
pub use denote.Plain.{uint_vals, uint_Tells, uint_Lawful}
pub use denote.Signed.{sint_Lawful}
pub use denote.RattleType.{RattleType, flat, owns}
pub use denote.RawPtr.{Ptr, RawPtr, block_ptr, null_ptr, lies_at, in_a_block, rawptr_vals, rawptr_Tells}
pub use denote.Ref.{MutRef, mut_vals, mut_Tells}
pub use denote.Signature.{plain, types_at, mut_ref_to, shr_slice_of}
pub use denote.Slice.{shr_slice_vals, shr_slice_Tells, mut_slice_vals, mut_slice_Tells, slice_val}
pub use denote.Steps.{nothing, opens, closes, peeks, heard, only}
pub use denote.Triple.Call.{calls_at, calls_at_last}
pub use denote.Triple.Clauses.{Lasts, lasts}
pub use denote.Triple.Spec.{triple_of}
pub use denote.Triple.Table.{framed}
pub use denote.Triple.Walked.{Stays, walk_of, stay_dropped, gave_ref, gave_slice, stay_ref, Goes-dropped, Goes-gave_ref, Goes-gave_slice, Goes-ref, ends_at}
pub use Rattle.std.specs.contracts.alloc.Global.{the_row as Heap}
pub use Rattle.calls.specs.States.{LibraryState}
pub use Rattle.calls.specs.contracts.libraries.Library.{the_row as E}
pub use types.Kit.{use0}
pub use base.Logic.{emp}
pub use contract.Monad.{fact_i}
pub use contract.BorrowLft.{◌⊑◌, ⊑_static}
pub use denote.RawPtr.{rawptr_Lawful}
pub use Rattle.std_alloc.proofs.BoxSteps.Form.{box_typed}
pub use Rattle.std_alloc.proofs.BoxSteps.Steps.{box_out, box_in}
