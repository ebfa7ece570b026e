-- What images mean in a run that began with a volume.
use Rattle.std.proofs.Common.{◌≡◌, ℕ, ◌^◌, ◌<◌, ◌≤◌, List, sym, subst, arith}
use Rattle.std.specs.Prelude.{Some, None}
use Rattle.r4_base.specs.Image.{Image, block_at}
use Rattle.r4_base.specs.Value.{Content}
use Rattle.r4_base.specs.Volume.{HasContent, IsLost}
use Rattle.r4_base.proofs.Images.{one_volume}
use Rattle.r4_base.proofs.Superblocks.{read_lawful}
use Rattle.r4_content.specs.Locality.{commands}
use Rattle.r4_outside.specs.Device.{State, TellsCrashes}
use Rattle.r4_flushed.specs.r4_trace.declared.entry.Entry.{Entry}
use Rattle.r4_flushed.specs.r4_trace.Order.{IsOrdered}
use Rattle.r4_flushed.specs.r4_trace.Safe.{IsSafeFrom}
use Rattle.r4_flushed.proofs.r4_trace.Safely.{crash_safe}
use Rattle.r4_flushed.specs.r4_wander.Kept.{IsVolumeOf}
use Rattle.r4_flushed.proofs.r4_sealed.Kept.{id_alike, lost_alike}
use Rattle.r4_durable.specs.Meaning.{Beginning, IsNamed, IsNextId, IsSafeTrace, IsVolumeLike, Names}
use Rattle.r4_durable.specs.Meaning.{WasLost}
use Rattle.r4_durable.specs.Meaning.{first_id, meaning_of, means}

-- ids of a content are in their range
pub id_small : (n : ℕ) (image : Image) (m : Content) (c : HasContent n image m) → c.super.oid < 2 ^ 60
id_small n image m c = (read_lawful n (block_at image 17) c.super c.layout.format).0.next_id.1

pub first_may_be : (b : Beginning) → IsNextId b (first_id b)
first_may_be b =
    let small = id_small b.blocks _ b.content b.volume.content in
    (omega arith, omega (arith, small))

pub start_means : (b : Beginning) → means b b.image b.content
start_means b =
    let may = first_may_be b in
    record { volume = b.volume; least = may.0; most = may.1; none_lost = λ k l. l }

pub one_meaning : (b : Beginning) (image : Image) (m o : Content) → means b image m → means b image o → m ≡ o
one_meaning b image m o x y = one_volume b.blocks image m o x.volume y.volume

pub volume_like : (n : ℕ) (target image : Image) (m : Content) (c : HasContent n target m)
    → IsVolumeOf n image target m c → IsVolumeLike c c.super.oid image m
volume_like n target image m c v = record {
  volume = v.volume;
  id_is = id_alike n target image m c v;
  lost = lost_alike n target image m c v;
}

pub like_means : (b : Beginning) (old : Image) (o : Content) (c : HasContent b.blocks old o) (next_id : ℕ)
    (image : Image) (m : Content) → IsVolumeLike c next_id image m → IsNextId b next_id
    → ((k : ℕ) → IsLost c k → WasLost b k) → means b image m
like_means b old o c next_id image m like may lost =
    let is = like.id_is in record {
      volume = like.volume;
      least = subst (λ (i : ℕ). first_id b ≤ i) (sym is) may.0;
      most = let most = may.1 in omega (arith, is, most);
      none_lost = λ k l. lost k ((like.lost k).0 l);
    }

-- whether or not a run names its beginning
module _ (limit : ℕ) (r : Names) (trace : List Entry) (legal : IsOrdered trace) (d : State)
    (named : TellsCrashes d → (b : Beginning) (t : ℕ) → IsNamed r d.blocks b → r.clock ≡ Some t
    → IsSafeFrom (means b) (commands limit) b.content t trace d) where
  pub safe_trace : IsSafeTrace limit r trace d
  safe_trace None begins =
      crash_safe (meaning_of None) (commands limit) None r.clock trace legal d (λ tells x t is at. absurd (cc is))
  safe_trace (Some b) begins =
      crash_safe (means b) (commands limit) (Some b.content) r.clock trace legal d (λ tells x t is at.
      let same : b.content ≡ x = cc is in
      subst (λ (y : Content). IsSafeFrom (means b) (commands limit) y t trace d) same (named tells b t begins at))
