-- The names of the logic that the walks by hand use, in one place.
pub use Rattle.std.proofs.Common.{◌≡◌, ◌∙◌, ap, List, [], ◌∷◌, ◌++◌, refl, sym, subst}
pub use lib.Dec.{T, lit<}
pub use mathlib.Core.Bool.{true, ◌&&◌}
pub use seplogic.Ra.Ura.{Ura}
pub use mir.Syntax.{Sym, Ty, Fn, Callee, Body, tnil, tcons, ty_ptr, ty_struct, local, value_local, assign, place, field}
pub use mir.Syntax.{copy, rv_opd, aggregate, seq, return, impl, dnil, int, w64, Args, a_type, dcons}
pub use mir.Val.{Val, vstruct, vcons, vnil, of_list, has_ty, WT}
pub use base.Logic.{SProp, ent, emp, id⊢}
pub use base.Fml.{Fml, fsep, fex, ftrue, flft}
pub use prog.Wp.{WpFn, Calls, Loops, Closed}
pub use prog.Model.{Model}
pub use types.Logic.{Logic, sem}
pub use types.Kit.{Item, Goal, Seq, Step, step, ‵, raw, ◌⊛◌, ◌$◌, ◌∵◌, !, qed, by, move, keep, drop, split, fsplit}
pub use types.Kit.{fjoin, prop, fpick, fpack, feq_i, feq_l, suffices, use0, use1, done, some, later, split3, join, pick}
pub use types.Kit.{await, rewrite, at_ret}
pub use types.Run.{stop, fld, of_opd, no_more, and_then, returns, enter, lit, first, blocks, exec}
pub use types.ByLocal.{alloc_all, pass_all, free_all, look_at, get, get_in, sets, lands_as, lands_last, env}
pub use types.Part.{agg, sub, whole}
pub use contract.Monad.{fact, fact_i, fact_mono}
pub use contract.Running.{Running, tables}
pub use denote.Exit.{yes, rest, Last, left, no}
pub use denote.RattleType.{RattleType, Valss, owns}
pub use denote.Builtin.{RawPtr}
pub use denote.RawPtr.{Ptr, block_ptr, null_ptr, ptr_val}
pub use denote.Signature.{types_at, plain}
pub use denote.Steps.{nothing, heard, only}
pub use denote.Param.{layout, param, bounded}
pub use denote.Struct.Struct.{within}
pub use denote.Triple.Clauses.{Ended, Clauses, closing, Lasts, lasts}
pub use denote.Triple.Entry.{alive}
pub use denote.Triple.Spec.{Meets, triple_of}
pub use denote.Triple.Walked.{Stays, AllGo, stay_dropped, walk_of}
pub use Rattle.std.proofs.alloc.Calls.{Al, handle_tells, Goes-blank}
pub use Rattle.std.proofs.ResultValues.{and_tt}
pub use Rattle.std.proofs.raw_atomic.Walks.{proved_at, leaves}
pub use contract.Lifetimes.{Lfts}
pub use denote.Param.Mute.{blank}
pub use Rattle.std.specs.Box.Ownership.{box_owns}
pub use mir.MapTy.{inst_fn}
pub use denote.Param.Laws.{param_laws}
pub use denote.Struct.Tuple.{Tuple}
pub use denote.Triple.Call.{calls_at, calls_at_last}
pub use denote.Triple.Table.{framed}
pub use contract.BorrowLft.{◌⊑◌}
