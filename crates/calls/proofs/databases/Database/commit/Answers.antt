use Rattle.std.proofs.Common.{List, [], ◌∷◌, ◌++◌, Bool, ap, append_assoc, refl, subst, ◌∙◌}
use Rattle.messages.specs.declared.responses.Response.{Response}
use Rattle.calls.specs.Steps.{IsIf, IsRolledBack}
use Rattle.calls.proofs.databases.Database.commit.Goals as goal

pub returns-then-is_open : goal.returns-then-is_open
returns-then-is_open c =
    let r = c.answer-answered.result in
    let ended = c.roll_back.ensures in
    record {
      added = r ∷ ended.added;
      are = record {
        between = c.answer-answered.new.self;
        first = c.answer-answered.ensures;
        behind = subst (λ (b : Bool). IsIf b (IsRolledBack c.args.name) c.answer-answered.new.self c.roll_back.new.self ended.added)
            c.if-is_open.ensures ended.are;
      };
      told = ended.told ∙ ap (λ (rs : List Response). rs ++ ended.added) c.push_reserved.ensures.items
          ∙ append_assoc c.args.responses.now.items (r ∷ []) ended.added;
    }

pub returns-else-is_open : goal.returns-else-is_open
returns-else-is_open c = record {
  added = c.answer-answered.result ∷ [];
  are = record {
    between = c.answer-answered.new.self;
    first = c.answer-answered.ensures;
    behind = subst (λ (b : Bool). IsIf b (IsRolledBack c.args.name) c.answer-answered.new.self c.answer-answered.new.self []) c.if-is_open.ensures refl;
  };
  told = c.push_reserved.ensures.items;
}
