-- Where the call has not written yet.
use Rattle.std.proofs.Common.{◌≡◌, ◌⊎◌, inl, ℕ, List, ap, subst, sym, arith}
use Rattle.r4_base.specs.Image.{Image, IsLawful, block_at}
use Rattle.r4_base.specs.Fresh.{IsFreshBut16, IsFreshImage}
use Rattle.r4_base.proofs.FreshVolume.{fresh_volume, fresh_super_is, fresh_lost}
use Rattle.r4_outside.specs.Device.{State, Goes, IsQuiet, Untouched}
use Rattle.r4_outside.proofs.Moments.{one_left, quiet_on}
use Rattle.r4_mkfs.specs.Mkfs.{IsLabel, IsMade, MakesInOrder, full_label}
use Rattle.r4_mkfs.proofs.Labels.{length-full_label}

pub idle_order : (old new : State) → Goes old new → Untouched old new → IsQuiet old → MakesInOrder old new
idle_order old new goes idle quiet = record {
  each = λ m image lo hi left. inl (ap (λ (i : Image). block_at i 16) (one_left old new m image goes idle.clock quiet lo hi left));
}

-- what holds from there on holds from the beginning
pub order_after : (old mid new : State) → Goes old mid → Untouched old mid → IsQuiet old → (IsQuiet mid → MakesInOrder mid new) → MakesInOrder old new
order_after old mid new goes idle quiet moment =
    let left = moment (quiet_on old mid goes idle.seen idle.clock quiet) in
    record {
      each = λ m image lo hi may. subst (λ (n : ℕ). (block_at image 16 ≡ block_at old.seen 16) ⊎ IsFreshBut16 n image) goes.blocks
          (subst (λ (i : Image). (block_at image 16 ≡ block_at i 16) ⊎ IsFreshBut16 mid.blocks image) idle.seen (left.each m image (let now = idle.clock in omega (arith, lo, now)) hi may));
    }

-- a fresh image is an empty volume
pub is_made : (label : List ℕ) (n : ℕ) (new : State) → IsLabel label → IsLawful n → n ≡ new.blocks → IsFreshImage n (full_label label) new.seen → IsMade label new
is_made label n new is lawful same f =
    let long = length-full_label label is.0 in
    subst (λ (k : ℕ). IsFreshImage k (full_label label) new.seen → IsMade label new) (sym same) (λ g. record {
      fresh = g;
      empty = record {
        volume = fresh_volume new.blocks (full_label label) new.seen long (omega (arith, lawful.0, same)) (omega (arith, lawful.1, same)) g;
        super = fresh_super_is new.blocks (full_label label) new.seen long (omega (arith, lawful.0, same)) (omega (arith, lawful.1, same)) g;
        none_lost = fresh_lost new.blocks (full_label label) new.seen long (omega (arith, lawful.0, same)) (omega (arith, lawful.1, same)) g;
      };
    }) f
