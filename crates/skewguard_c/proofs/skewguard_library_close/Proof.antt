-- `skewguard_library_close` makes the box again and drops it. The pointer is not followed here.
use Rattle.skewguard_c.proofs.Steps.{◌≡◌, List, [], ◌∷◌, refl, ap, proved, leaves, id⊢, ftrue, flft, Val, vunit, fact, tables, ‵, raw, ◌⊛◌, some, later, ◌$◌, ◌∵◌, !, qed, by, move, keep, drop, use0, use1, use2, split, join, fjoin, feq_i, feq_l, full_share, pick, await, enter, of_opd, unit_lit, no_more, and_then, returns, alloc_all, pass_all, free_all, look_at, get, sets, lands_as, lft_new, unit, yes, owns, RawPtr, rawptr_vals, rawptr_Tells, rawptr_Lawful, plain, types_at, nothing, only, calls_at, Lasts, lasts, triple_of, framed, Stays, stay_dropped, Goes-dropped, Heap, fact_i, emp, ◌⊑◌, ⊑_static, box_out, box_in, box_typed}
use Rattle.skewguard_c.proofs.Boxes.{Eb, E', LE, Heap', LHeap, heap_vals, drops}
use Rattle.std_alloc.proofs.BoxSteps.Form as box
use Rattle.std.proofs.alloc.Global.TheLaws as heap_laws
use Rattle.std.specs.contracts.impls.GlobalAllocator.TheImpl.{ghosts, dict}
use Rattle.skewguard_c.proofs.Destruct++none.drop.Code as none_code
use Rattle.std.proofs.impls.GlobalAllocator.TheImpl.Met as heap_met
use denote.Param.NoDrop
use Rattle.skewguard_c.specs.Handles.{handle}
use Rattle.skewguard_c.specs.contracts.skewguard_library_close as f
use Rattle.skewguard_c.proofs.skewguard_library_close.Statement.{statement}
use Rattle.skewguard_c.proofs.skewguard_library_close.Code as code
use Rattle.std.specs.contracts.boxed.Box.from_raw as made
use Rattle.std.proofs.boxed.Box.from_raw.Met as made_met
use Rattle.skewguard_c.specs.contracts.finish as g
use Rattle.skewguard_c.proofs.finish.Met.{met}

abbrev stayed : Stays f.ended.signature.params f.ended.kept
stayed = (stay_dropped _ yes, (stay_dropped _ yes, tt))

pub skewguard_library_close_spec : {M : Type 1} → statement M
unfolding none_code.code
skewguard_library_close_spec {M} 𝓤 𝓛 𝓜 𝓡 wired =
    let H = 𝓛.H in let γ = 𝓡.env in let 𝓣 = tables 𝓤 H 𝓜 𝓡 γ in let c = f.clauses 𝓛 𝓜.mem 𝓡.returns in
    proved 𝓛 f.ended stayed c 𝓜 𝓡
    (Goes-dropped 𝓛 0 (plain (λ _. Heap)) yes (λ κs x w. refl), (Goes-dropped 𝓛 0 (plain (λ _. RawPtr)) yes (λ κs x w. refl), tt))
    f.Key.name code.function (code.unfolded 𝓤 H 𝓜 𝓡 wired)
    (λ κs. (heap_vals, (rawptr_vals, tt))) (λ κs. (heap_laws.lowers.val_is, (rawptr_Tells, tt))) (λ κs qs bounds a old are.
    let alloc = a.0 in let at = a.1.0 in let B = box.B Eb in
    let Made = triple_of 𝓛 (made.signature E' Heap' ghosts dict drops) (made.spec E' Heap' ghosts dict drops 𝓛 𝓜.mem 𝓡.returns) in
    let known = made_met.met 𝓤 𝓛 𝓜 𝓡 (code.calls-std_alloc::boxed::Box::from_raw γ wired) E' Heap' LE LHeap ghosts dict drops
    (heap_met.passed γ (code.calls-std_heap::GlobalAllocator::allocate γ wired) (code.calls-std_heap::GlobalAllocator::deallocate γ wired) (code.calls-std_heap::GlobalAllocator::grow γ wired) (code.calls-std_heap::GlobalAllocator::shrink γ wired) M 𝓤 𝓛 𝓜 𝓡)
    (NoDrop.glues "skewguard_c::Destruct++none::drop" γ (code.calls-skewguard_c::Destruct++none::drop γ wired) Heap' LHeap M 𝓤 𝓛 𝓜 𝓡) in
    let G = triple_of 𝓛 g.signature (g.spec 𝓛 𝓜.mem 𝓡.returns) in
    qed 𝓛 ((‵ ftrue ⊛ ‵ (owns (types_at f.signature.params κs) a (heap_vals alloc, (rawptr_vals at, tt)))) ∷ ‵ (handle alloc at old) ∷ []) ∵ split ! $ drop ! $
    enter ! _ _ _ _ _ $ alloc_all ! (λ l. pass_all ! refl (((heap_laws.the_row_laws.lawful 𝓛).typed alloc _ are.0).0, (((rawptr_Lawful 𝓛).typed at _ refl).0, tt)) $
    -- [the parameters; the handle; the locals]
    sets ! (of_opd ! (get ! refl)) refl ((rawptr_Lawful 𝓛).typed at _ refl).0 $
    lft_new ! tt (λ α. lft_new ! tt (λ β. move ! (3 ∷ []) $ use0 𝓛 (raw (fact 𝓤 (β ∷ [] ⊑ []))) (fact_i 𝓤 _ (emp 𝓤) (⊑_static (β ∷ []))) $ join ! $ use0 𝓛 (raw (fact 𝓤 (α ∷ [] ⊑ []))) (fact_i 𝓤 _ (emp 𝓤) (⊑_static (α ∷ []))) $ join ! $
    let toks = ‵ (flft (α ∷ []) full_share) ⊛ ‵ (flft (β ∷ []) full_share) ⊛ ‵ ftrue in
    let z : Made.Ghost = (((α ∷ [], (β ∷ [], tt)), (full_share, (full_share, tt)), tt, (alloc, (at, tt)), (heap_vals alloc, (rawptr_vals at, tt))), old) in
    nothing ! $ move ! (2 ∷ 0 ∷ []) $ join ! $ move ! (2 ∷ 0 ∷ []) $ join ! $ move ! (0 ∷ 2 ∷ []) $ join ! $ use2 𝓛 (raw (Made.pre z)) (id⊢ 𝓤 _) $
    calls_at ! (framed 𝓤 H 𝓜 𝓣) Made known z (and_then ! (get ! refl) (and_then ! (get ! refl) (no_more !))) (λ v.
    use1 𝓛 (later (some (λ (r : B.Denot). (toks ⊛ ‵ (B.own_val r (v ∷ []))) ⊛ some (λ (ws : Lasts (made.ended E' Heap' ghosts dict drops) z.0.0 z.0.3). ‵ (lasts (made.ended E' Heap' ghosts dict drops) z.0.0 z.0.3 ws)
    ⊛ (raw (fact 𝓤 (r.value ≡ old)) ⊛ raw (fact 𝓤 (r.alloc ≡ alloc))))))) (id⊢ 𝓤 _) $ await ! tt $ pick ! (λ r. split ! $ split ! $ drop ! $
    box_out Eb ! r (v ∷ []) (λ b o hv e is fits. box_in Eb ! r b o r.value e refl $
    let w : Val = box.word Eb hv b o in let z' : G.Ghost = ((tt, tt, tt, (r, tt), (w ∷ [], tt)), tt) in
    lands_as ! (ap only is) refl (box_typed Eb hv b o fits) $
    nothing ! $ move ! (1 ∷ 0 ∷ []) $ fjoin ! $ nothing ! $ join ! $ nothing ! $ move ! (1 ∷ 0 ∷ []) $ use2 𝓛 (raw (G.pre z')) (id⊢ 𝓤 _) $
    calls_at ! (framed 𝓤 H 𝓜 𝓣) G (met 𝓤 𝓛 𝓜 𝓡 (code.calls-skewguard_c::finish γ wired)) z' (and_then ! (get ! refl) (no_more !)) (λ u.
    use1 𝓛 (later (some (λ (r' : Unit {0}). (‵ ftrue ⊛ ‵ (unit.own_val r' (u ∷ []))) ⊛ some (λ (ws : Lasts g.ended z'.0.0 z'.0.3). ‵ (lasts g.ended z'.0.0 z'.0.3 ws) ⊛ ‵ ftrue)))) (id⊢ 𝓤 _) $
    await ! tt $ pick ! (λ r'. split ! $ split ! $ drop ! $ feq_l ! (λ is_unit. lands_as ! (ap only is_unit) refl (tt, tt) $
    sets ! (of_opd ! (unit_lit !)) refl (tt, tt) $ returns ! (look_at ! 0 refl) $ free_all ! refl $ keep ! [] $
    nothing ! $ feq_i ! (List Val) (vunit ∷ []) (vunit ∷ []) refl $ nothing ! $ nothing ! $ fjoin ! $ nothing ! $ fjoin ! $ nothing ! $
    move ! (0 ∷ 1 ∷ 2 ∷ 3 ∷ []) $ by ! (leaves 𝓛 f.ended stayed c ((κs, qs, bounds, a, (heap_vals alloc, (rawptr_vals at, tt))), old) vunit tt (tt, (tt, tt)) (tt, (tt, tt)))))))))))))
