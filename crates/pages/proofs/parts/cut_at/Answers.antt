use Rattle.std.proofs.Common.{◌≡◌, ◌<◌, ◌+◌, ◌∙◌, ap, map, arith, set, refl, length, slice_index_or}
use Rattle.std.proofs.lemmas.List.{length-map, length-set}
use Rattle.std.proofs.lemmas.List.Edits.{length-insert}
use Rattle.std.specs.Arc.{arc_value}
use Rattle.pages.specs.Levels.{IsWide}
use Rattle.pages.proofs.Descents.{child_so}
use Rattle.pages.proofs.Parting.{led_within}
use Rattle.pages.proofs.Shifts.{parted_length}
use Rattle.pages.proofs.Changes.{own_same, same_as, cut_there, cut_room, either_within}
use Rattle.pages.proofs.parts.cut_at.Goals as goal

pub index_mut-requires : goal.index_mut-requires
index_mut-requires g c =
    let within : c.args.at < length (map arc_value c.args.nodes.now.items) = led_within c.args.key.now c.args.seps.now.items c.args.at (map arc_value c.args.nodes.now.items) c.requires.place c.requires.below.parted in
    omega (arith, within, length-map c.args.nodes.now.items arc_value, c.args.nodes.now.ok.0, c.reserve-2.ensures.len)

pub halve-requires : goal.halve-requires
halve-requires g c =
    let within : c.args.at < length (map arc_value c.args.nodes.now.items) = led_within c.args.key.now c.args.seps.now.items c.args.at (map arc_value c.args.nodes.now.items) c.requires.place c.requires.below.parted in
    let inside : c.args.at < length c.args.nodes.now.items = omega (arith, within, length-map c.args.nodes.now.items arc_value) in
    let x = c.index_mut.result.now in
    child_so IsWide c.args.nodes.now.items c.args.at x (arc_value x) inside (c.index_mut.ensures.value ∙ ap (λ xs. slice_index_or xs c.args.at x) c.reserve-2.ensures.items) refl c.requires.wide

pub returns-in_err-parting-clause-same : goal.returns-in_err-parting-clause-same
returns-in_err-parting-clause-same g c =
    same_as c.args.seps.now.items c.reserve.new.self.items (map arc_value c.args.nodes.now.items) (map arc_value (set c.reserve-2.new.self.items c.args.at c.halve.new.node)) c.reserve.ensures.items
    (own_same c.reserve-2.new.self.items c.args.at c.index_mut.result.now c.halve.new.node c.index_mut.ensures.value c.in_err-parting.ensures.same ∙ ap (map arc_value) c.reserve-2.ensures.items) c.requires.below c.requires.filled

pub side-place-requires : goal.side-place-requires
side-place-requires g c =
    let within : c.args.at < length (map arc_value c.args.nodes.now.items) = led_within c.args.key.now c.args.seps.now.items c.args.at (map arc_value c.args.nodes.now.items) c.requires.place c.requires.below.parted in
    omega (arith, within, c.requires.room)

pub insert-requires : goal.insert-requires
insert-requires g c =
    let within : c.args.at < length (map arc_value c.args.nodes.now.items) = led_within c.args.key.now c.args.seps.now.items c.args.at (map arc_value c.args.nodes.now.items) c.requires.place c.requires.below.parted in
    omega (arith, within, c.args.seps.now.ok.0, c.reserve.ensures.len, parted_length c.args.seps.now.items (map arc_value c.args.nodes.now.items) c.requires.below.parted)

pub overflow_add-at : goal.overflow_add-at
overflow_add-at g c =
    let within : c.args.at < length (map arc_value c.args.nodes.now.items) = led_within c.args.key.now c.args.seps.now.items c.args.at (map arc_value c.args.nodes.now.items) c.requires.place c.requires.below.parted in
    omega (arith, within, c.requires.room)

pub insert-requires-2 : goal.insert-requires-2
insert-requires-2 g c =
    let within : c.args.at < length (map arc_value c.args.nodes.now.items) = led_within c.args.key.now c.args.seps.now.items c.args.at (map arc_value c.args.nodes.now.items) c.requires.place c.requires.below.parted in
    omega (arith, within, length-map c.args.nodes.now.items arc_value, c.args.nodes.now.ok.0, c.reserve-2.ensures.len)

pub returns-clause-same : goal.returns-clause-same
returns-clause-same g c =
    let within : c.args.at < length (map arc_value c.args.nodes.now.items) = led_within c.args.key.now c.args.seps.now.items c.args.at (map arc_value c.args.nodes.now.items) c.requires.place c.requires.below.parted in
    let inside : c.args.at < length c.args.nodes.now.items = omega (arith, within, length-map c.args.nodes.now.items arc_value) in
    cut_there c.args.seps.now.items c.reserve.new.self.items c.insert.new.self.items c.args.nodes.now.items c.reserve-2.new.self.items c.insert-2.new.self.items c.args.at c.in_ok-parting.parting c.index_mut.result.now c.halve.new.node c.halve.new.behind
    c.reserve.ensures.items c.reserve-2.ensures.items inside c.requires.room c.index_mut.ensures.value c.in_ok-parting.ensures.cut c.in_ok-insert.ensures.items c.in_ok-insert-2.ensures.items c.requires.below c.requires.filled

pub returns-clause-within : goal.returns-clause-within
returns-clause-within g c =
    let within : c.args.at < length (map arc_value c.args.nodes.now.items) = led_within c.args.key.now c.args.seps.now.items c.args.at (map arc_value c.args.nodes.now.items) c.requires.place c.requires.below.parted in
    let inside : c.args.at < length c.args.nodes.now.items = omega (arith, within, length-map c.args.nodes.now.items arc_value) in
    let set_in = set c.reserve-2.new.self.items c.args.at c.halve.new.node in
    let long : length set_in ≡ length c.args.nodes.now.items = length-set c.reserve-2.new.self.items c.args.at c.halve.new.node ∙ ap length c.reserve-2.ensures.items in
    either_within c.side-place.result c.args.at (length c.insert-2.new.self.items)
    (omega (arith, inside, long, ap length c.in_ok-insert-2.ensures.items, length-insert set_in (c.args.at + 1) c.halve.new.behind (omega (arith, inside, long)))) c.side-place.ensures.either

pub returns-clause-room : goal.returns-clause-room
returns-clause-room g c =
    let within : c.args.at < length (map arc_value c.args.nodes.now.items) = led_within c.args.key.now c.args.seps.now.items c.args.at (map arc_value c.args.nodes.now.items) c.requires.place c.requires.below.parted in
    let inside : c.args.at < length c.args.nodes.now.items = omega (arith, within, length-map c.args.nodes.now.items arc_value) in
    cut_room c.args.nodes.now.items c.reserve-2.new.self.items c.insert-2.new.self.items c.args.at c.side-place.result c.in_ok-parting.parting c.index_mut.result.now c.halve.new.node c.halve.new.behind
    c.reserve-2.ensures.items inside c.in_ok-parting.ensures.cut c.in_ok-insert-2.ensures.items c.side-place.ensures.either
