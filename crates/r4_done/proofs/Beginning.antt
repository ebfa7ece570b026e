-- A run that names its beginning draws ids that no object had then.
use Rattle.std.proofs.Common.{◌≡◌, ℕ, ◌≤◌, Option, Some, None, refl, sym, ap, subst, arith}
use Rattle.std.specs.Option.{option_map}
use Rattle.r4_base.specs.Value.{Stat}
use Rattle.r4_base.specs.Volume.{stat_rank}
use Rattle.r4_base.specs.declared.things.Oid.{Oid}
use Rattle.r4_content.specs.Fields.{IsUnused}
use Rattle.r4_taking.specs.r4_durable.Meaning.{Beginning, BeginsWith, first_id, start_of}
use Rattle.r4_taking.specs.r4_history.Drawn.{BeginsAt}
use Rattle.r4_outside.specs.Device.{State}
use Rattle.r4_taking.specs.r4_trace.Ids.{Start}
use Rattle.r4_taking.specs.r4_kept.Kept.{IsKept}
use Rattle.r4_taking.specs.r4_kept.Naming.{Naming, names_in}
use Rattle.r4_taking.specs.r4_kept.View.{CoreSeen}

-- what a beginning draws from on
begins_there : (b : Beginning) → BeginsAt (first_id b) (Some (start_of b))
begins_there b x is =
    let same : start_of b ≡ x = cc is in
    subst (λ (y : Start). (y.next_id ≡ first_id b) × ((n : ℕ) → first_id b ≤ n → IsUnused y.content (record { 0 = n })))
    same (
      refl,
      λ n le o a stat named.
          (let content = b.volume.content in
          let raw = ((content.visible (stat_rank o) (Stat a)).0 stat.1).0 in
          let lt = (content.ids.ids o a (stat.0, raw)).1 in
          let at : o.oid.0 ≡ n = ap (λ (i : Oid). i.0) named in
          absurd (omega (arith, lt, at, le))),
    )

pub begins_at : {D : Type 0} (r : Naming) (d : State) (c : CoreSeen D) (k : IsKept r d c) (o : Option Beginning)
    → BeginsWith (names_in r) d.blocks o → BeginsAt k.history.first (option_map start_of o)
begins_at r d c k None named = λ b is. absurd (cc is)
begins_at r d c k (Some b) named =
    subst (λ (n : ℕ). BeginsAt n (Some (start_of b))) (sym (k.history.begins b named)) (begins_there b)
