-- The order in which a commit is written, and what a crash leaves of it (docs/durable.md, "Wrong
-- bodies").
use Rattle.std.specs.Prelude.{◌≡◌, ◌⊎◌, ℕ, List, [], ◌∷◌, ◌++◌}
use Rattle.r4_base.specs.Image.{Image}
use Rattle.r4_wander.specs.LogPlan.{first, news, parts_of}
use Rattle.r4_wander.specs.Parts.{part}
use Rattle.r4_wander.specs.Safe.{IsEncoded, IsSafe, WithAtom, WithoutAtom}
use Rattle.r4_wander.specs.Torn.{IsTornBy, Write, put_writes}
use Rattle.r4_wander.specs.declared.plan.LogPlan.{LogPlan}

-- what is written up to one sync, and then up to the next
abbrev pub Order : Type 0
Order = LogPlan → List (List Write)

-- the journal header, and the journal footer
abbrev pub header : LogPlan → List Write
header p = part (parts_of p) 1

abbrev pub footer : LogPlan → List Write
footer p = part (parts_of p) 3

-- placed cells and log; the journal header; the homes; the journal footer
abbrev pub in_order : Order
in_order p = first p ∷ header p ∷ news p ∷ footer p ∷ []

-- the log is not synced when the journal header is written
abbrev pub header_early : Order
header_early p = (first p ++ header p) ∷ news p ∷ footer p ∷ []

-- the journal header is not synced when the homes are written
abbrev pub homes_early : Order
homes_early p = first p ∷ (header p ++ news p) ∷ footer p ∷ []

-- A crash leaves what was synced, and of the writes behind that in each sector for itself the old
-- or the new bytes.
abbrev pub IsLeft : List (List Write) → (base image : Image) → Type 0
IsLeft [] base image = image ≡ base
IsLeft (now ∷ later) base image = IsTornBy now base image ⊎ IsLeft later (put_writes now base) image

-- Where nothing was unflushed, whatever a crash leaves of a safe plan settles as without the atom
-- or as with it.
abbrev pub IsAtomic : Order → Type 0
IsAtomic order =
    (n : ℕ) (base : Image) (p : LogPlan) → IsSafe n base [] p → IsEncoded p
    → (image : Image) → IsLeft (order p) base image
    → WithoutAtom n base [] p image ⊎ WithAtom n base [] p image
