-- A body by one of its keys, and its last byte.
use Rattle.std.specs.Prelude.{◌≡◌, ℕ, ◌+◌, ◌-◌, ◌<◌, [], ◌∷◌, Bool, false, ◌&&◌, nat_lt}
use Rattle.std.specs.Prelude.{Some, if◌then◌else◌}
use Rattle.std.proofs.Common.{arith, sym, ap, ◌∙◌}
use Rattle.std.specs.FinMap.{find}
use Rattle.std.specs.Ordering.{nat_cmp}
use Rattle.std.proofs.lemmas.Bool.{lt-ltb}
use Rattle.r4_base.specs.Key.{IsKey, rank}
use Rattle.r4_base.specs.Volume.{byte_rank, object_of, stat_rank}
use Rattle.r4_base.specs.declared.key.Key.{Key}
use Rattle.r4_content.specs.Edited.{Edits, Pairs}
use Rattle.r4_content.specs.Listed.{list_edited}
use Rattle.r4_content.proofs.Ranks.{byte_after}
use Rattle.r4_leaf_demands.proofs.r4_leaf_edits.KeyRanks.{key_again}
use Rattle.r4_leaf_demands.specs.r4_reach.Touched.{Body, body_of, kind_reads, last_byte, size_in}

-- the body of a key, with sizes before and after
abbrev pub body_at : (first : Key) → (was now : ℕ) → Body
body_at k was now = record { file = object_of k; first = rank k; was = was; now = now; in_extents = false }

pub same_body : (e : Edits) (s : Pairs) (k : Key) (was now : ℕ) → IsKey k
    → was ≡ size_in (find nat_cmp (stat_rank (object_of k)) s)
    → now ≡ size_in (find nat_cmp (stat_rank (object_of k)) (list_edited e s))
    → body_at k was now ≡ body_of e s false (rank k)
same_body e s k was now is before after =
    (λ i. body_at k (before i) (after i))
    ∙ ap (λ (j : Key). record {
      file = object_of j;
      first = rank k;
      was = size_in (find nat_cmp (stat_rank (object_of j)) s);
      now = size_in (find nat_cmp (stat_rank (object_of j)) (list_edited e s));
      in_extents = false;
    }) (sym (key_again k is))

-- ---- the last byte

pub last_read : (k : Key) (was now from to : ℕ) → 0 < was → was < now
    → from ≡ byte_rank (object_of k) (was - 1) → to ≡ byte_rank (object_of k) was
    → (from, to) ∷ [] ≡ kind_reads (Some (body_at k was now))
last_read k was now from to some more is end = sym
    (ap (λ (t : Bool). if t && nat_lt was now then (last_byte b, last_byte b + 1) ∷ [] else []) (lt-ltb 0 was some)
    ∙ ap (λ (t : Bool). if t then (last_byte b, last_byte b + 1) ∷ [] else []) (lt-ltb was now more)
    ∙ (λ i. (first i, next i) ∷ []))
  where
    b : Body
    b = body_at k was now

    back : was - 1 + 1 ≡ was
    back = omega (arith, some)

    first : byte_rank (object_of k) (was - 1) ≡ from
    first = sym is

    next : byte_rank (object_of k) (was - 1) + 1 ≡ to
    next = sym (byte_after (object_of k) (was - 1) 1) ∙ ap (byte_rank (object_of k)) back ∙ sym end
