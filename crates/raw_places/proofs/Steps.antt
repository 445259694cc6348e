-- The names that the walks share.
pub use Rattle.std.proofs.Common.{◌≡◌, ℕ, ◌+◌, ◌*◌, ◌/◌, ◌^◌, ◌<◌, List, [], ◌∷◌, ◌++◌, length}
pub use Rattle.std.proofs.Common.{get_or, set, replicate, refl, sym, ap, ◌∙◌, subst, lit<, w64}
pub use Rattle.std.proofs.Common.{arith}
pub use Rattle.std.proofs.Common.{length-set}
pub use Rattle.std.proofs.raw_atomic.Walks.{proved, proved_at, leaves}
pub use Rattle.std_alloc.proofs.VecSteps.Shapes.{after}
pub use Rattle.core.proofs.mem.Facts.{says_two}
pub use Rattle.core.proofs.mem.Param.{El, R, el_x, elτ, lawful, one}
pub use Rattle.core.proofs.ptr.Rows.{times_below, one_below}
pub use base.Fraction.{full_share}
pub use base.Logic.{SProp, ent, sep, emp, id⊢}
pub use base.Fml.{Fml, GName, Lft, Share, ftrue, fsep, fat, flft, froom}
pub use contract.BorrowLft.{◌⊑◌, ⊑_trans}
pub use contract.Monad.{fact, fact_i}
pub use contract.Running.{tables}
pub use mir.MapTy.{inst_fn}
pub use mir.Syntax.{Ty, Fn, Args, Dict, a_type, dcons, dnil, named}
pub use mir.Val.{Val, vunit, vint, vptr}
pub use prog.Wp.{Env, WpFn}
pub use types.Kit.{‵, raw, ◌⊛◌, some, later, prop, at_ret, ◌$◌, ◌∵◌, !, qed, by, done, move, keep}
pub use types.Kit.{drop, use0, use1, use2, use3, split, split3, join, pick, fsplit, fsplit3, fjoin}
pub use types.Kit.{fjoin3, fpack, feq_i, flt_l, await, frame, rewrite, regoal, suffices, group}
pub use types.Part.{whole, sub, agg, look_in}
pub use types.Run.{enter, of_opd, lit, unit_lit, size_lit, bin, addr, load, look, init, stop, fld}
pub use types.Run.{no_more, and_then, assigns_last, first, blocks, exec, returns}
pub use types.ByLocal.{alloc_all, pass_all, free_all, look_at, get, get_in, through, sets, env}
pub use types.ByLocal.{sets_last, lands_as, is}
pub use denote.Builtin.{usize, RefOf, RefMutOf}
pub use denote.Exit.{yes, no}
pub use denote.Memory.{cell_at}
pub use denote.Param.{param, copied, bounded}
pub use denote.Plain.{uint_vals, uint_Tells}
pub use denote.RattleType.{RattleType, owns}
pub use denote.RawPtr.{Ptr, block_ptr, in_a_block}
pub use denote.Ref.{MutRef, mut_vals, mut_Tells, ShrRef, shr_vals, shr_Tells}
pub use denote.Signature.{plain, types_at, type_at}
pub use denote.Steps.{nothing, heard}
pub use denote.Triple.Clauses.{Ended}
pub use denote.Triple.Entry.{alive}
pub use denote.Triple.Walked.{Stays, walk_of, says, stay_dropped, Goes-dropped, stay_ref, Goes-ref}
pub use denote.Triple.Walked.{Goes-spent_ref, ends_at}
pub use Rattle.core.specs.declared.clone.Clone.{Ghosts}
