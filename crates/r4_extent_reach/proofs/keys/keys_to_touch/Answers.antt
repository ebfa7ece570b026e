use Rattle.std.proofs.Common.{◌||◌, Bool, List, ap, map, ◌∙◌}
use Rattle.std.proofs.lemmas.List.{map-append}
use Rattle.r4_extent_asks.specs.r4_bodies.Told.{intervals_of}
use Rattle.r4_content.specs.Edited.{Intervals, is_in}
use Rattle.r4_content.specs.Held.{interval_of}
use Rattle.r4_content.specs.declared.edits.Interval.{Interval}
use Rattle.r4_content.proofs.EditLaws.{in_append}
use Rattle.r4_extent_reach.proofs.keys.keys_to_touch.Goals as goal

pub returns : goal.returns
returns c = λ k low high.
    let read = c.add_read.new.keys.items in
    let more = c.args.changes.now in
    let of_none = ap (λ (xs : List Interval). is_in (map interval_of xs) k) c.new-keys.ensures.items in
    ap (λ (xs : List Interval). is_in (map interval_of xs) k) c.in_ok-extend_from_slice.ensures.items
    ∙ (ap (λ (rs : Intervals). is_in rs k) (map-append interval_of read more)
    ∙ (in_append (map interval_of read) (map interval_of more) k
    ∙ (ap (λ (b : Bool). b || is_in (map interval_of more) k) (c.in_ok-add_read.ensures k low high)
    ∙ ap (λ (b : Bool). (b || is_in (intervals_of c.args.read) k) || is_in (map interval_of more) k) of_none)))
