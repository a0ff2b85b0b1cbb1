use Rattle.std.proofs.Common.{◌≡◌, List, [], ◌∷◌, ◌++◌, refl, sym, subst}
use mir.Val.{Val}
use base.Logic.{SProp, ent, emp, id⊢}
use prog.Wp.{WpFn}
use types.Kit.{‵, raw, ◌⊛◌, ◌$◌, ◌∵◌, !, qed, by, move, keep, split, fsplit3, fjoin, suffices, use0, rewrite, feq_l}
use types.Run.{no_more, and_then, returns, enter}
use types.ByLocal.{alloc_all, pass_all, free_all, look_at, get, sets}
use types.Part.{agg}
use contract.Monad.{fact, fact_i}
use contract.Running.{tables}
use denote.Exit.{yes}
use denote.RattleType.{RattleType, owns}
use denote.Signature.{types_at, type_at, plain}
use denote.Builtin.{RawPtr}
use denote.RawPtr.{ptr_val}
use denote.Steps.{nothing}
use denote.Param.{layout}
use denote.Triple.Entry.{alive}
use denote.Triple.Walked.{Stays, stay_dropped, walk_of, Goes-dropped}
use Rattle.core.proofs.atomic.Steps.{Ptr-Good}
use Rattle.core.proofs.cell.Inside.{Good, one}
use Rattle.std.proofs.raw_atomic.Walks.{proved_at, leaves}
use Rattle.std.proofs.alloc.Global.TheLaws as heap_laws
use Rattle.std.specs.declared.option.Option.{Option}
use Rattle.std.specs.declared.option.Option.TheVariants.{None}
use Rattle.sst_c.proofs.LooseValues.{both}
use Rattle.sst_c.proofs.Values.{R, Z, handle_in, handle_good}
use Rattle.sst_c.specs.contracts.boxed.bare.{ended, clauses}
use Rattle.sst_c.specs.contracts.boxed.bare.Key.{name as #self}
use Rattle.sst_c.proofs.boxed.bare.Statement.{statement}
use Rattle.sst_c.proofs.boxed.bare.Code as code

pub bare_spec : {M : Type 1} → statement M
bare_spec 𝓤 𝓛 𝓜 𝓡 wired =
    let H = 𝓛.H in let 𝓣 = tables 𝓤 H 𝓜 𝓡 𝓡.env in let LZ = heap_laws.the_row_laws in let En = ended in let c = clauses 𝓛 𝓜.mem 𝓡.returns in
    let fn = code.function in
    let hs : Stays En.signature.params En.kept = (stay_dropped (plain (λ _. RawPtr)) yes, (stay_dropped (plain (λ _. Z)) yes, tt)) in
    proved_at 𝓛 En hs c 𝓜 𝓡 (Goes-dropped 𝓛 0 (plain (λ _. RawPtr)) yes (λ κs x f. refl), (Goes-dropped 𝓛 0 (plain (λ _. Z)) yes (λ κs x f. refl), tt)) #self fn (code.unfolded 𝓤 H 𝓜 𝓡 wired) (λ z are.
    let κs = z.0.0 in let qs = z.0.1 in let Post : Val → SProp 𝓤 = (walk_of 𝓛 En hs c).post z in let Run : List Val → SProp 𝓤 = λ ws. WpFn 𝓤 H 𝓣.C 𝓣.Λ fn ws Post in let Out : RattleType = type_at En.signature.result κs in
    let p = z.0.3.0 in let a = z.0.3.1.0 in
    let h = one (layout Z) z.0.4.1.0 ((LZ.lawful 𝓛).typed a z.0.4.1.0 are.1.0) in let w : Val = both (ptr_val p) h.0 in
    let held : Option R.Denot = None in let Reported : Type 0 = held ≡ held in
    let good : Good (layout Out) w = handle_good p h.0 h.2 in
    qed 𝓛 ((raw (alive 𝓛 En.signature κs qs) ⊛ ‵ (owns (types_at En.signature.params κs) z.0.3 z.0.4)) ∷ raw ((c κs z.0.3).requires z.1) ∷ []) ∵
    split ! $ move ! (1 ∷ []) $ fsplit3 ! $ feq_l ! (λ e.
    rewrite ! 0 (λ (us : List Val). ‵ (Z.own_val a us)) h.1 refl $
    nothing ! $ handle_in ! p h.0 a None $
    suffices ! (Run (ptr_val p ∷ h.0 ∷ [])) (subst (λ (us : List Val). ent 𝓤 (Run (ptr_val p ∷ h.0 ∷ [])) (Run us)) (sym (λ i. e i ++ (h.1 i ++ []))) (id⊢ 𝓤 (Run (ptr_val p ∷ h.0 ∷ [])))) $
    enter ! 𝓣.C 𝓣.Λ fn (ptr_val p ∷ h.0 ∷ []) Post $ alloc_all ! (λ l. pass_all ! refl (Ptr-Good p, (h.2, tt)) $
    sets ! (agg ! (and_then ! (get ! refl) (and_then ! (get ! refl) (no_more !)))) refl good $
    use0 𝓛 (raw (fact 𝓤 Reported)) (fact_i 𝓤 Reported (emp 𝓤) refl) $ nothing ! $ nothing ! $ fjoin ! $ nothing ! $ fjoin ! $
    returns ! (look_at ! 0 refl) $ free_all ! refl $ keep ! (4 ∷ 0 ∷ 2 ∷ 1 ∷ []) $ by ! (leaves 𝓛 En hs c z w (record { at = p; alloc = a; value = None }) (tt, (tt, tt)) (tt, (tt, tt))))))
