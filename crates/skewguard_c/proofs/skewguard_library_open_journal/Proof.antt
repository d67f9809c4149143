-- `skewguard_library_open_journal` makes the box, and hands out its pointer with what the box owned, as
-- `skewguard_library_open` does.
use Rattle.skewguard_c.proofs.Steps.{◌≡◌, List, [], ◌∷◌, refl, ap, subst, ◌∙◌, w32, proved, leaves, inl, inr, full_share, id⊢, fst∗, never, ftrue, flft, named, Val, vint, vptr, bare, sem, fact, tables, Item, ‵, raw, ◌⊛◌, some, later, at_ret, ◌$◌, ◌∵◌, !, qed, by, move, drop, use0, use1, use2, split, join, fsplit, fjoin, fpack, feq_i, feq_l, pick, await, rewrite, enter, of_opd, lit, store, stop, fld, no_more, and_then, assigns, first, exec, returns, alloc_all, pass_all, free_all, look_at, get, get_in, through, sets, sets_last, lands_as, env, whole, lft_new, u8, i32, yes, Is, lone, RattleType, owns, Ptr, RawPtr, block_ptr, null_ptr, in_a_block, mut_vals, mut_Tells, plain, types_at, shr_slice_of, shr_slice_vals, shr_slice_Tells, nothing, opens, closes, heard, only, calls_at, Lasts, lasts, triple_of, framed, Stays, walk_of, stay_dropped, stay_ref, Goes-dropped, Goes-ref, Heap, E, fact_i, emp, ◌⊑◌, ⊑_static, box_typed, box_out, box_in}
use Rattle.skewguard_c.proofs.Boxes.{Eb, E', LE, Heap', LHeap, heap_vals, drops, library_drops, library_glue, by_option}
use Rattle.std_alloc.proofs.BoxSteps.Form as box
use Rattle.std_alloc.proofs.ResultValues.{and_tt}
use Rattle.std.proofs.VecSteps.Shapes.{after, head, arm_body}
use Rattle.std.proofs.Common.{lit<}
use Rattle.std.proofs.alloc.Global.TheLaws as heap_laws
use Rattle.std.specs.Prelude.{pos, IfSome}
use Rattle.std.specs.Box.Ownership.{box_owns}
use Rattle.std.specs.contracts.impls.GlobalAllocator.TheImpl.{ghosts, dict}
use Rattle.std.specs.contracts.boxed.Box as box_type
use Rattle.std.specs.contracts.option.Option as option
use Rattle.skewguard_c.proofs.Destruct++none.drop.Code as none_code
use Rattle.std.proofs.impls.GlobalAllocator.TheImpl.Met as heap_met
use denote.Param.NoDrop
use denote.Signed.{sint_Makes}
use denote.Steps.{owned}
use mir.Syntax.{Body}
use mir.Val.{of_list}
use mathlib.Core.List.{◌++◌}
use denote.RawPtr.{ptr_val}
use denote.Memory.{cell_at}
use Rattle.calls.specs.States.{LibraryState, IsOpenedOn}
use prog.Wp.{Wp, after_seq, at_return}
use types.Kit.{any_q, fpick, fsplit3, fjoin3}
use types.Match.{live, vrt, in_variant}
use types.Run.{switches_on}
use types.ByLocal.{get_tag}
use Rattle.skewguard_c.specs.Handles.{handle, handle_where, IsMade, made_to}
use Rattle.skewguard_c.specs.contracts.skewguard_library_open_journal as f
use Rattle.skewguard_c.proofs.skewguard_library_open_journal.Statement.{statement}
use Rattle.skewguard_c.proofs.skewguard_library_open_journal.Code as code
use Rattle.skewguard_c.specs.contracts.make_on_journal as m
use Rattle.skewguard_c.proofs.make_on_journal.Met as make_met
use Rattle.std.specs.contracts.boxed.Box.into_raw as g
use Rattle.std.proofs.boxed.Box.into_raw.Met as raw_met

abbrev stayed : Stays f.ended.signature.params f.ended.kept
stayed = (stay_dropped _ yes, (stay_dropped _ yes, (stay_dropped _ yes, (stay_ref (2 ∷ []) tt (plain (λ _. RawPtr)), tt))))

-- what `make_on_journal` answers
abbrev Out : RattleType
Out = option.the_row (box_type.the_row E Heap ghosts)

pub skewguard_library_open_journal_spec : {M : Type 1} → statement M
unfolding none_code.code
skewguard_library_open_journal_spec {M} 𝓤 𝓛 𝓜 𝓡 wired =
    let H = 𝓛.H in let env' = 𝓡.env in let 𝓣 = tables 𝓤 H 𝓜 𝓡 env' in let c = f.clauses 𝓛 𝓜.mem 𝓡.returns in let fn = code.function in let W = walk_of 𝓛 f.ended stayed c in
    proved 𝓛 f.ended stayed c 𝓜 𝓡
    (Goes-dropped 𝓛 3 (plain (λ _. Heap)) yes (λ κs x w. refl), (Goes-dropped 𝓛 3 (shr_slice_of (0 ∷ []) tt (plain (λ _. u8))) yes (λ κs x w. refl), (Goes-dropped 𝓛 3 (shr_slice_of (1 ∷ []) tt (plain (λ _. u8))) yes (λ κs x w. refl), (Goes-ref 𝓛 3 2 tt (plain (λ _. RawPtr)), tt))))
    f.Key.name fn (code.unfolded 𝓤 H 𝓜 𝓡 wired)
    (λ κs. (heap_vals, (shr_slice_vals, (shr_slice_vals, (mut_vals, tt))))) (λ κs. (heap_laws.lowers.val_is, (shr_slice_Tells (named 0) κs.0 u8, (shr_slice_Tells (named 1) κs.1.0 u8, (mut_Tells (named 2) κs.1.1.0 RawPtr, tt))))) (λ κs qs bounds a _ are.
    let alloc = a.0 in let text = a.1.0 in let file = a.1.1.0 in let out = a.1.1.1.0 in let rb = out.ref_ptr.0 in let ro = out.ref_ptr.1 in let B : RattleType = box.B Eb in
    let t₀ : Item 𝓤 = ‵ (flft κs.0 qs.0) in let t₁ : Item 𝓤 = ‵ (flft κs.1.0 qs.1.0) in let t₂ : Item 𝓤 = ‵ (flft κs.1.1.0 qs.1.1.0) in let text_fits = are.1.0.0.1.0 in let file_fits = are.1.1.0.0.1.0 in
    let y : W.Ghost = ((κs, qs, bounds, a, (heap_vals alloc, (shr_slice_vals text, (shr_slice_vals file, (mut_vals out, tt))))), tt) in
    let Make = triple_of 𝓛 m.signature (m.spec 𝓛 𝓜.mem 𝓡.returns) in
    let z₁ : Make.Ghost = (((κs.0, (κs.1.0, tt)), (qs.0, (qs.1.0, tt)), tt, (alloc, (text, (file, tt))), (heap_vals alloc, (shr_slice_vals text, (shr_slice_vals file, tt)))), tt) in
    let Raw = triple_of 𝓛 (g.signature E' Heap' ghosts dict drops library_drops) (g.spec E' Heap' ghosts dict drops library_drops 𝓛 𝓜.mem 𝓡.returns) in let Rn = g.ended E' Heap' ghosts dict drops library_drops in
    let known = raw_met.met 𝓤 𝓛 𝓜 𝓡 (code.calls-std_alloc::boxed::Box::into_raw env' wired) E' Heap' LE LHeap ghosts dict drops library_drops
    (heap_met.passed env' (code.calls-std_heap::GlobalAllocator::allocate env' wired) (code.calls-std_heap::GlobalAllocator::deallocate env' wired) (code.calls-std_heap::GlobalAllocator::grow env' wired) (code.calls-std_heap::GlobalAllocator::shrink env' wired) M 𝓤 𝓛 𝓜 𝓡)
    (NoDrop.glues "skewguard_c::Destruct++none::drop" env' (code.calls-skewguard_c::Destruct++none::drop env' wired) Heap' LHeap M 𝓤 𝓛 𝓜 𝓡)
    (library_glue 𝓤 𝓛 𝓜 𝓡 (code.calls-skewguard_c::calls++libraries++Library+Destruct::drop env' wired)) in
    qed 𝓛 (((t₀ ⊛ t₁ ⊛ t₂ ⊛ ‵ ftrue) ⊛ ‵ (owns (types_at f.signature.params κs) a y.0.4)) ∷ ‵ ftrue ∷ []) ∵
    split ! $ move ! (2 ∷ []) $ drop ! $ split ! $ move ! (1 ∷ []) $ split ! $ move ! (1 ∷ []) $ split ! $ move ! (1 ∷ []) $ drop ! $ move ! (3 ∷ []) $ fsplit3 ! $ move ! (2 ∷ []) $ fsplit ! $ move ! (1 ∷ []) $ fsplit ! $ move ! (1 ∷ []) $ drop ! $
    -- [out; the file; the allocator; the text; out's token; the file's token; the text's token]
    enter ! _ _ _ _ _ $ alloc_all ! (λ l. pass_all ! refl (((heap_laws.the_row_laws.lawful 𝓛).typed alloc _ are.0).0, ((tt, (tt, (record { fits = text_fits }, tt))), ((tt, (tt, (record { fits = file_fits }, tt))), ((tt, tt), tt)))) $
    let Ev = env fn.locals l in let Post : Val → _ = W.post y in let arms : Body = head (after 1 fn.body) in let Then = any_q (after_seq 𝓤 H (Wp 𝓤 H 𝓣.C 𝓣.Λ Ev (after 2 fn.body) (at_return 𝓤 H Ev Post)) (at_return 𝓤 H Ev Post)) in
    nothing ! $ move ! (2 ∷ 0 ∷ []) $ fjoin ! $ move ! (3 ∷ 0 ∷ []) $ fjoin ! $ move ! (2 ∷ 0 ∷ []) $ fjoin ! $ nothing ! $ move ! (4 ∷ 0 ∷ []) $ join ! $ move ! (4 ∷ 0 ∷ []) $ join ! $ join ! $ nothing ! $ move ! (1 ∷ 0 ∷ []) $ use2 𝓛 (raw (Make.pre z₁)) (id⊢ 𝓤 _) $
    calls_at ! (framed 𝓤 H 𝓜 𝓣) Make (make_met.met 𝓤 𝓛 𝓜 𝓡 (code.calls-skewguard_c::make_on_journal env' wired)) z₁ (and_then ! (get ! refl) (and_then ! (get ! refl) (and_then ! (get ! refl) (no_more !)))) (λ v.
    use1 𝓛 (later (some (λ (r : Out.Denot). ((t₀ ⊛ t₁ ⊛ ‵ ftrue) ⊛ ‵ (Out.own_val r (v ∷ []))) ⊛ some (λ (ws : Lasts m.ended z₁.0.0 z₁.0.3). ‵ (lasts m.ended z₁.0.0 z₁.0.3 ws) ⊛ raw (fact 𝓤 (IfSome r (λ x. IsOpenedOn text.now file.now x.value))))))) (id⊢ 𝓤 _) $
    await ! tt $ pick ! (λ r. split ! $ move ! (1 ∷ []) $ pick ! (λ ws. split ! $ drop ! $ heard ! (IfSome r (λ x. IsOpenedOn text.now file.now x.value)) (λ told. split ! $ move ! (1 ∷ []) $
    -- [what was made; the texts' tokens; out; out's token]
    by_option ! r (λ x. ‵ (Out.own_val x (v ∷ [])))
    (λ d is_some. fpick ! (λ us. fsplit ! $ feq_l ! (λ ev. fpick ! (λ vss. fsplit ! $ feq_l ! (λ eu. fsplit ! $ box_out Eb ! d vss.0 (λ b o hv e is fits. box_in Eb ! d b o d.value e refl $
    let w : Val = box.word Eb hv b o in let typed = box_typed Eb hv b o fits in let first_state : IsOpenedOn text.now file.now d.value = subst (λ (x : Out.Denot). IfSome x (λ i. IsOpenedOn text.now file.now i.value)) is_some told in
    lands_as ! (ap only ev ∙ ap (λ (ks : List Val). live 1 (of_list ks)) (eu ∙ ap (λ (ks : List Val). ks ++ []) is)) refl (and_tt _ typed.0, (record { fits = lit< tt }, (typed.1, tt))) $
    first ! $ switches_on ! (get_tag ! (vrt ! refl (fld ! refl (stop !))) (whole !)) $ exec ! 𝓣.C 𝓣.Λ Ev (arm_body 0 arms) Then $
    sets ! (of_opd ! (get_in ! (vrt ! refl (fld ! refl (stop !))) (in_variant ! 1 0 refl refl (whole !)))) refl typed $ sets ! (of_opd ! (get ! refl)) refl typed $
    -- [the box; nothing; the texts' tokens; out; out's token]
    fjoin ! $ lft_new ! tt (λ α. lft_new ! tt (λ β. let toks = ‵ (flft (α ∷ []) full_share) ⊛ ‵ (flft (β ∷ []) full_share) ⊛ ‵ ftrue in
    let z₂ : Raw.Ghost = (((α ∷ [], (β ∷ [], tt)), (full_share, (full_share, tt)), tt, (d, tt), (w ∷ [], tt)), tt) in
    nothing ! $ move ! (1 ∷ 0 ∷ []) $ join ! $ move ! (1 ∷ 0 ∷ []) $ join ! $ join ! $ nothing ! $
    use0 𝓛 (raw (fact 𝓤 (β ∷ [] ⊑ []))) (fact_i 𝓤 _ (emp 𝓤) (⊑_static (β ∷ []))) $ join ! $ use0 𝓛 (raw (fact 𝓤 (α ∷ [] ⊑ []))) (fact_i 𝓤 _ (emp 𝓤) (⊑_static (α ∷ []))) $ join ! $
    move ! (1 ∷ 0 ∷ []) $ use2 𝓛 (raw (Raw.pre z₂)) (id⊢ 𝓤 _) $
    calls_at ! (framed 𝓤 H 𝓜 𝓣) Raw known z₂ (and_then ! (get ! refl) (no_more !)) (λ u.
    use1 𝓛 (later (some (λ (p : Ptr). (toks ⊛ ‵ (RawPtr.own_val p (u ∷ []))) ⊛ some (λ (ls : Lasts Rn z₂.0.0 z₂.0.3). ‵ (lasts Rn z₂.0.0 z₂.0.3 ls) ⊛ ‵ (box_owns (ghosts.dealloc_token d.alloc) E' p d.value))))) (id⊢ 𝓤 _) $
    await ! tt $ pick ! (λ p. split ! $ move ! (1 ∷ []) $ pick ! (λ ls. split ! $ drop ! $ move ! (1 ∷ []) $ split ! $ drop ! $ feq_l ! (λ ep.
    -- [what the box owned; the texts' tokens; out; out's token]
    in_a_block ! p (λ p'. box_owns (ghosts.dealloc_token d.alloc) E' p' d.value) (fst∗ 𝓤 (never 𝓤) (sem 𝓛 (ghosts.dealloc_token d.alloc (bare (lone E'.mir)) null_ptr))) (λ b' o' e'.
    lands_as ! (ap only ep ∙ ap ptr_val e') refl (tt, tt) $ sets ! (of_opd ! (get ! refl)) refl (tt, tt) $
    move ! (2 ∷ []) $ fsplit3 ! $ move ! (1 ∷ 2 ∷ 5 ∷ []) $ opens ! tt RawPtr rb ro (λ ks. move ! (1 ∷ []) $ feq_l ! (λ eo. rewrite ! 0 (λ (js : List Val). ‵ (cell_at full_share RawPtr.mir js rb ro)) eo refl $
    assigns ! (of_opd ! (get ! refl)) (through ! refl (stop !)) (store ! 0 refl (tt, tt)) $
    sets_last ! (of_opd ! (lit ! tt)) refl (tt, record { fits = lit< tt }) $ exec ! 𝓣.C 𝓣.Λ Ev (after 2 fn.body) (at_ret Ev Post) $ sets ! (of_opd ! (get ! refl)) refl (tt, record { fits = lit< tt }) $
    feq_i ! (List Val) (vptr b' o' ∷ []) (vptr b' o' ∷ []) refl $ move ! (1 ∷ 0 ∷ []) $ closes ! tt RawPtr (block_ptr b' o') (vptr b' o' ∷ []) rb ro $
    returns ! (look_at ! 0 refl) $ free_all ! refl $
    -- [two parts of out; its token; its first part; what the box owned; the texts' tokens]
    move ! (3 ∷ 0 ∷ 1 ∷ []) $ fjoin3 ! $ nothing ! $ move ! (1 ∷ 0 ∷ []) $ fjoin ! $ nothing ! $ fjoin ! $ nothing ! $ fjoin ! $ nothing ! $ fjoin ! $
    move ! (2 ∷ []) $ fpack ! ((s : LibraryState) × IsOpenedOn text.now file.now s) (λ x. handle alloc (block_ptr b' o') x.0) (d.value, first_state) $
    fpack ! (IsMade out.now (block_ptr b' o') (pos 0)) (made_to (handle_where alloc (block_ptr b' o') (IsOpenedOn text.now file.now))) (inl refl) $ owned ! i32 (Is i32) (sint_Makes 𝓛 w32) (pos 0) _ (refl, lit< tt) $
    nothing ! $ move ! (4 ∷ 0 ∷ []) $ join ! $ move ! (4 ∷ []) $ split ! $ move ! (1 ∷ []) $ split ! $ move ! (1 ∷ []) $ drop ! $ move ! (0 ∷ 2 ∷ []) $ join ! $ move ! (1 ∷ 0 ∷ []) $ join ! $ move ! (0 ∷ 3 ∷ 1 ∷ 2 ∷ []) $
    by ! (leaves 𝓛 f.ended stayed c y (vint w32 0) (pos 0) (tt, (tt, (tt, (block_ptr b' o', tt)))) (tt, (tt, (tt, (tt, tt))))))))))))))))))))
    (λ is_none. fpick ! (λ us. fsplit ! $ feq_l ! (λ ev. fpick ! (λ vss. fsplit ! $ feq_l ! (λ eu. drop ! $
    lands_as ! (ap only ev ∙ ap (λ (ks : List Val). live 0 (of_list ks)) eu) refl (tt, (record { fits = lit< tt }, tt)) $
    first ! $ switches_on ! (get_tag ! (vrt ! refl (fld ! refl (stop !))) (whole !)) $ exec ! 𝓣.C 𝓣.Λ Ev (arm_body 1 arms) Then $
    sets_last ! (of_opd ! (lit ! tt)) refl (tt, record { fits = lit< tt }) $ exec ! 𝓣.C 𝓣.Λ Ev (after 2 fn.body) (at_ret Ev Post) $ sets ! (of_opd ! (get ! refl)) refl (tt, record { fits = lit< tt }) $
    returns ! (look_at ! 0 refl) $ free_all ! refl $
    -- [the texts' tokens; out; out's token]
    nothing ! $ fpack ! (IsMade out.now out.now (pos 2)) (made_to (handle_where alloc out.now (IsOpenedOn text.now file.now))) (inr (refl, refl)) $ owned ! i32 (Is i32) (sint_Makes 𝓛 w32) (pos 2) _ (refl, lit< tt) $
    nothing ! $ move ! (4 ∷ 0 ∷ []) $ fjoin ! $ nothing ! $ fjoin ! $ nothing ! $ fjoin ! $ nothing ! $ fjoin ! $
    nothing ! $ move ! (5 ∷ 0 ∷ []) $ join ! $ move ! (4 ∷ []) $ split ! $ move ! (1 ∷ []) $ split ! $ move ! (1 ∷ []) $ drop ! $ move ! (0 ∷ 2 ∷ []) $ join ! $ move ! (1 ∷ 0 ∷ []) $ join ! $
    by ! (leaves 𝓛 f.ended stayed c y (vint w32 2) (pos 2) (tt, (tt, (tt, (out.now, tt)))) (tt, (tt, (tt, (tt, tt))))))))))))))))
