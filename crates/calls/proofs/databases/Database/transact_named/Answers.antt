use Rattle.std.proofs.Common.{Bool, List, [], ◌∷◌, ◌++◌, Vec, ap, inr, refl, subst, sym, ◌∙◌, ◌≡◌}
use Rattle.std.specs.declared.alloc.Global.{Global}
use Rattle.messages.specs.declared.responses.Response.{Response}
use Rattle.calls.specs.declared.databases.Database.{Database}
use Rattle.calls.specs.Steps.{IsIf, IsTransacted, IsWorked}
use Rattle.calls.proofs.databases.Database.transact_named.Goals as goal
use Rattle.calls.proofs.databases.Database.transact_named.Goals.{then-is_begun, else-is_begun}

pub returns : goal.returns
returns c =
    let begun = c.answer-begun.result in
    let first : c.push_reserved.new.self.items ≡ begun ∷ []
    = c.push_reserved.ensures.items ∙ ap (λ (rs : List Response). rs ++ begun ∷ []) c.in-Ok.ensures.items in
    inr (elim c.if-is_begun.branch [
      | then-is_begun w ↦
          let added = w.work.ensures.added in
          subst (λ (rs : List Response). IsTransacted c.args.name c.args.fields.now c.args.self.now c.if-is_begun.self rs)
          (sym (c.from_vec.ensures ∙ ap (λ (v : Vec Response Global). v.items) w.responses-is ∙ w.work.ensures.told ∙ ap (λ (rs : List Response). rs ++ added) first))
          (subst (λ (d : Database). IsTransacted c.args.name c.args.fields.now c.args.self.now d (begun ∷ added)) (sym w.self-is) (record {
            between = c.answer-begun.new.self;
            first = c.answer-begun.ensures;
            behind = subst (λ (b : Bool). IsIf b (IsWorked c.args.name c.args.fields.now) c.answer-begun.new.self w.work.new.self added)
                w.if-is_begun.ensures w.work.ensures.are;
          }))
      | else-is_begun w ↦
          subst (λ (rs : List Response). IsTransacted c.args.name c.args.fields.now c.args.self.now c.if-is_begun.self rs)
          (sym (c.from_vec.ensures ∙ ap (λ (v : Vec Response Global). v.items) w.responses-is ∙ first))
          (subst (λ (d : Database). IsTransacted c.args.name c.args.fields.now c.args.self.now d (begun ∷ [])) (sym w.self-is) (record {
            between = c.answer-begun.new.self;
            first = c.answer-begun.ensures;
            behind = subst (λ (b : Bool). IsIf b (IsWorked c.args.name c.args.fields.now) c.answer-begun.new.self c.answer-begun.new.self [])
                w.if-is_begun.ensures refl;
          }))
    ])
