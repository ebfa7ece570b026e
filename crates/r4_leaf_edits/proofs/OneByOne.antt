-- Edits one after another.
use Rattle.std.specs.Prelude.{◌≡◌, ℕ, ◌^◌, ◌<◌, [], ◌∷◌, ◌++◌, Bool, true, false, not, ◌&&◌, ◌||◌, cond, if◌then◌else◌, All}
use Rattle.std.proofs.Common.{refl, ap, subst, sym, ◌∙◌}
use Rattle.std.specs.List.{filter}
use Rattle.std.proofs.lemmas.Bool.{and_parts}
use Rattle.std.proofs.lemmas.List.Elements.{All-head}
use Rattle.r4_base.specs.Key.{key_of_rank, offset_of}
use Rattle.r4_base.specs.Value.{Value}
use Rattle.r4_content.specs.Edited.{Pairs, is_in, put_keys}
use Rattle.r4_reach.specs.Reach.{is_body}
use Rattle.r4_leaf_edits.specs.Making.{Sets, is_kept, values_set}
use Rattle.r4_leaf_edits.specs.Suiting.{IsBefore, is_byte}
use Rattle.r4_leaf_edits.specs.declared.leaf_edits.LeafEdits.{LeafEdits}
use Rattle.r4_leaf_edits.proofs.Clipped.{all_left, all_right}
use Rattle.r4_leaf_edits.proofs.Gained.{gains_none, sets_both}

pub first_of : (P : ℕ × Value → Type 0) (a b whole : Pairs) → whole ≡ a ++ b → All P whole → All P a
first_of P a b whole e all = all_left P a b (subst (All P) e all)

pub rest_of : (P : ℕ × Value → Type 0) (a b whole : Pairs) → whole ≡ a ++ b → All P whole → All P b
rest_of P a b whole e all = all_right P a b (subst (All P) e all)

pub sets_all : (lo hi : ℕ) (a b whole : Pairs) (x y z : LeafEdits) → whole ≡ a ++ b → Sets lo hi a x y → Sets lo hi b y z → Sets lo hi whole x z
sets_all lo hi a b whole x y z e f g = subst (λ (ps : Pairs). Sets lo hi ps x z) (sym e) (sets_both lo hi a b x y z f g)

-- ---- a value that may be left out

pub sets_one : (lo hi : ℕ) (t : Bool) (one : Pairs) (x y : LeafEdits) → t ≡ true → Sets lo hi one x y → Sets lo hi (if t then one else []) x y
sets_one lo hi true one x y e h = h
sets_one lo hi false one x y e h = absurd cc

pub sets_none : (lo hi : ℕ) (t : Bool) (one : Pairs) (x : LeafEdits) → t ≡ false → Sets lo hi (if t then one else []) x x
sets_none lo hi false one x e = gains_none lo hi x
sets_none lo hi true one x e = absurd cc

-- a byte that is set is not too far behind
pub near_byte : (bytes : Bool) (k : ℕ) (v : Value) (r : Bool) → ((bytes || not (is_body k)) && r) ≡ true → All (IsBefore (if bytes then 16384 else 2 ^ 64)) (filter (λ p. is_byte p.1) ((k, v) ∷ [])) → is_byte v ≡ true
    → offset_of (key_of_rank k) < 16384
near_byte bytes k v r kept all byte = by_bytes bytes refl
  where
    first : IsBefore (if bytes then 16384 else 2 ^ 64) (k, v)
    first = All-head (IsBefore (if bytes then 16384 else 2 ^ 64)) (k, v) [] (subst (λ (b : Bool). All (IsBefore (if bytes then 16384 else 2 ^ 64)) (cond b ((k, v) ∷ []) [])) byte all)

    by_bytes : (b : Bool) → bytes ≡ b → offset_of (key_of_rank k) < 16384
    by_bytes true e = subst (λ (b : Bool). offset_of (key_of_rank k) < (if b then 16384 else 2 ^ 64)) e first.1
    by_bytes false e =
        let parts = and_parts (bytes || not (is_body k)) r kept in
        absurd (no_body (is_body k) first.0 (ap (λ (b : Bool). b || not (is_body k)) (sym e) ∙ parts.0))
      where
        no_body : (b : Bool) → b ≡ true → (false || not b) ≡ true → ⊥
        no_body true h g = cc
        no_body false h g = cc

-- the value of one key and those of the others
pub values_of : (bytes : Bool) (p : ℕ × Value) (ps : Pairs) → values_set bytes (p ∷ ps) ≡ (if is_kept bytes p && not (is_in (put_keys ps) p.0) then p ∷ [] else []) ++ values_set bytes ps
values_of bytes p ps = by_test (is_kept bytes p && not (is_in (put_keys ps) p.0))
  where
    by_test : (t : Bool) → (if t then p ∷ values_set bytes ps else values_set bytes ps) ≡ (if t then p ∷ [] else []) ++ values_set bytes ps
    by_test true = refl
    by_test false = refl
