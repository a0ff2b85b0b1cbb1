-- It gives the block back to the inner allocator. Assumes `Logic`.
use Rattle.std.proofs.Common.{◌≡◌, ℕ, ◌+◌, [], ◌∷◌, ◌++◌, refl, w64}
use mir.Syntax.{Args, Fn, a_type, dnil, dcons}
use mir.Val.{vunit, vint, vptr}
use mir.MapTy.{inst_fn}
use prog.Memory.{size, align, capped, up}
use prog.Wp.{WpFn}
use base.Logic.{id⊢, never, fst∗}
use base.Fml.{fsep, flft, ftrue}
use contract.BorrowLft.{◌⊑◌, ⊑_trans}
use contract.Monad.{fact}
use contract.Running.{tables}
use types.Logic.{sem}
use types.Kit.{‵, raw, prop, ◌⊛◌, later, given, ◌$◌, ◌∵◌, !, qed, move, keep, use1, split, split3, join, learn, fsplit, fjoin, feq_i, regoal, suffices, await, done}
use types.Run.{stop, fld, addr, no_more, and_then, of_opd, unit_lit, returns, enter}
use types.ByLocal.{alloc_all, pass_all, free_all, look_at, get, through, sets, lands_as}
use denote.Exit.{yes}
use denote.RattleType.{owns}
use denote.Ref.{shr_vals}
use denote.Opens.{unhide}
use denote.Param.{bounded, param}
use denote.Plain.{uint_vals, uint_Tells}
use denote.RawPtr.{Ptr, room_for, block_ptr, null_ptr, in_a_block, rawptr_vals, rawptr_Tells}
use denote.Signature.{Slot, plain, types_at}
use denote.Steps.{heard, nothing}
use denote.Builtin.{usize, RawPtr, RefOf}
use denote.Triple.Call.{calls_at}
use denote.Triple.Table.{framed}
use denote.Triple.Walked.{Stays, stay_dropped, walk_of, ends_at, Goes-dropped}
use Rattle.std.proofs.alloc.Calls.{Al, α, seen, token, Gives, at_gives, Gives-goes, Gives-Gives}
use Rattle.std.proofs.raw_atomic.Walks.{proved}
use Rattle.test_support.specs.contracts.refusing.Refusing as wrapper
use Rattle.test_support.specs.contracts.refusing.RefusingAllocator.deallocate as F
use Rattle.test_support.specs.contracts.refusing.RefusingAllocator.deallocate.Key as key
use Rattle.test_support.proofs.refusing.RefusingAllocator.deallocate.Statement.{statement}
use Rattle.test_support.proofs.refusing.RefusingAllocator.deallocate.Code as code

module _ (Z : Al) where
  abbrev args : Args
  args = bounded (a_type ∷ []) (Z.row, tt) (dcons Z.d (dcons Z.drops dnil))

  abbrev here : Fn
  here = inst_fn args code.function

  abbrev self : Slot 2
  self = RefOf (0 ∷ []) tt (plain (λ _. wrapper.the_row (param 0 Z.row))) (λ _. tt)

  abbrev stayed : Stays (F.ended Z.row Z.g Z.d Z.drops).signature.params (F.ended Z.row Z.g Z.d Z.drops).kept
  stayed = (stay_dropped self yes, (stay_dropped (plain (λ _. RawPtr)) yes, (stay_dropped (plain (λ _. usize)) yes, (stay_dropped (plain (λ _. usize)) yes, tt))))

pub deallocate_spec : {M : Type 1} → statement M
deallocate_spec 𝓤 𝓛 𝓜 𝓡 wired Y L g d d' met _ =
    let Z : Al = record { row = Y; laws = L; g = g; d = d; drops = d' } in
    let T = F.ended Y g d d' in let c = F.clauses Y g d d' 𝓛 𝓜.mem 𝓡.returns in let 𝓣 = tables 𝓤 𝓛.H 𝓜 𝓡 𝓡.env in let W = walk_of 𝓛 T (stayed Z) c in
    let word = Goes-dropped 𝓛 2 (plain (λ _. usize)) yes (λ κs x f. refl) in
    proved 𝓛 T (stayed Z) c 𝓜 𝓡 (Goes-dropped 𝓛 2 (self Z) yes (λ κs x f. refl), (Goes-dropped 𝓛 2 (plain (λ _. RawPtr)) yes (λ κs x f. refl), (word, (word, tt))))
    (key.name (args Z)) (here Z) (code.unfolded 𝓤 𝓛.H 𝓜 𝓡 wired (Y, tt) d d')
    (λ κs. (shr_vals, (rawptr_vals, (uint_vals w64, (uint_vals w64, tt))))) (λ κs. ((λ r vs s. s.0), (rawptr_Tells, (uint_Tells w64, (uint_Tells w64, tt))))) (λ κs qs bounds a τ are.
    let κ = κs.0 in let q = qs.0 in let r = a.0 in let n = a.1.1.0 in let l = a.1.1.1.0 in let h = r.now.inner in
    let G = Gives Z 𝓛 𝓜.mem 𝓡.returns in
    let at : ℕ × ℕ = (r.ref_ptr.0, r.ref_ptr.1 + up (align (α Z)) 0) in
    let y : Ptr → W.Ghost = λ x. ((κs, qs, bounds, (r, (x, (n, (l, tt)))), (shr_vals r, (rawptr_vals x, (vint w64 n ∷ [], (vint w64 l ∷ [], tt))))), τ) in
    let Said : Type 0 = (capped (size τ) ≡ n) × (capped (align τ) ≡ l) in
    qed 𝓛 (((‵ (flft κ q) ⊛ ‵ (flft κs.1.0 qs.1.0) ⊛ ‵ ftrue) ⊛ ‵ (owns (types_at T.signature.params κs) a (y a.1.0).0.4)) ∷ (raw (fact 𝓤 (κs.1.0 ⊑ Y.lives)) ⊛ raw (fact 𝓤 Said) ⊛ ‵ (fsep (room_for τ a.1.0) (token Z h τ a.1.0))) ∷ []) ∵
    move ! (1 ∷ []) $ split3 ! $ heard ! _ (λ le. heard ! Said (λ said.
    in_a_block ! a.1.0 (λ x. fsep (room_for τ x) (token Z h τ x)) (fst∗ 𝓤 (never 𝓤) (sem 𝓛 (token Z h τ null_ptr))) (λ b o e.
    regoal ! (λ x. prop (WpFn 𝓤 𝓛.H 𝓣.C 𝓣.Λ (here Z) (vptr r.ref_ptr.0 r.ref_ptr.1 ∷ (rawptr_vals x ++ (vint w64 n ∷ vint w64 l ∷ []))) (W.post (y x)))) e refl $
    move ! (1 ∷ []) $ split ! $ split ! $ move ! (2 ∷ []) $ fsplit ! $ fsplit ! $ move ! (1 ∷ []) $ unhide ! $ fsplit ! $ fsplit ! $ use1 𝓛 (‵ (seen Z κ at h)) (id⊢ 𝓤 _) $ move ! (1 ∷ []) $ fsplit ! $ keep ! (2 ∷ 6 ∷ 7 ∷ 8 ∷ []) $
    enter ! _ _ _ _ _ $ alloc_all ! (λ l'. pass_all ! refl ((tt, tt), ((tt, tt), ((tt, record { fits = are.1.1.0.1 }), ((tt, record { fits = are.1.1.1.0.1 }), tt)))) $
    sets ! (addr ! (through ! refl (fld ! refl (stop !)))) refl (tt, tt) $
    join ! $ move ! (2 ∷ []) $ fsplit ! $ move ! (1 ∷ 2 ∷ []) $ join ! $ move ! (1 ∷ 0 ∷ []) $ join ! $
    use1 𝓛 (raw (G.pre (at_gives Z 𝓛 𝓜.mem 𝓡.returns κ q at h b o n l τ))) (Gives-goes Z 𝓛 𝓜.mem 𝓡.returns κ q at h (⊑_trans κ κs.1.0 Y.lives bounds.0 le) b o n l τ said.0 said.1 are.1.1.0.1 are.1.1.1.0.1) $
    calls_at ! (framed 𝓤 𝓛.H 𝓜 𝓣) G (met.deallocate d') (at_gives Z 𝓛 𝓜.mem 𝓡.returns κ q at h b o n l τ) (and_then ! (get ! refl) (and_then ! (get ! refl) (and_then ! (get ! refl) (and_then ! (get ! refl) (no_more !))))) (λ v.
    use1 𝓛 (later (given (v ≡ vunit) (‵ (flft κ q)))) (Gives-Gives Z 𝓛 𝓜.mem 𝓡.returns κ q at h b o n l τ v) $ await ! tt $ learn ! (λ is.
    lands_as ! is refl (tt, tt) $ sets ! (of_opd ! (unit_lit !)) refl (tt, tt) $ returns ! (look_at ! 0 refl) $ free_all ! refl $
    suffices ! _ (ends_at 𝓛 T (stayed Z) c (y (block_ptr b o)) vunit tt (tt, (tt, (tt, (tt, tt)))) (tt, (tt, (tt, (tt, tt))))) $
    nothing ! $ feq_i ! _ (vunit ∷ []) _ refl $ nothing ! $ nothing ! $ fjoin ! $ nothing ! $ fjoin ! $ nothing ! $ fjoin ! $ nothing ! $ fjoin ! $ join ! $
    move ! (2 ∷ 3 ∷ []) $ join ! $ join ! $ done !)))))))
