-- Bytes that suited edits set lie in the blocks that the body needs afterwards.
use Rattle.std.proofs.Common.{◌≡◌, ◌⊎◌, inl, inr, ℕ, ◌<◌, ◌==◌, Bool, true, false, cond, [], ◌∷◌, Option, Some, None, refl, sym, ap, ◌∙◌}
use Rattle.std.specs.List.{filter, flat_map}
use Rattle.std.specs.Option.{option_or}
use Rattle.std.proofs.lemmas.Bool.{cases_Bool, or_parts}
use Rattle.std.proofs.lemmas.Option.{none-some}
use Rattle.r4_base.specs.Tree.{Store}
use Rattle.r4_base.specs.Value.{Byte, Content, Entry, Stat, Value, at_key}
use Rattle.r4_content.specs.Edited.{Edits, Pairs, changed, is_in, put_keys}
use Rattle.r4_content.proofs.EditLaws.{at_edited, in_append}
use Rattle.r4_content.proofs.EditLaws as laws
use Rattle.r4_applied.specs.r4_build.r4_leaf_edits.Suiting.{SuitLeaves, bytes_set, is_byte, zero_pairs}
use Rattle.r4_applied.proofs.r4_build.r4_leaf_edits.Puts.{in_both}
use Rattle.r4_applied.proofs.r4_build.r4_leaf_edits.Whole.{bodies_only, zeros_keys}
use Rattle.r4_applied.specs.r4_reach.Reach.{is_body}
use Rattle.r4_applied.specs.r4_reach.Touched.{Body}
use Rattle.r4_allowed.specs.r4_extent_change.r4_extent_blocks.Setting.{byte_of, byte_set, last_put}
use Rattle.r4_allowed.specs.r4_extent_change.r4_extent_build.Growing.{end_after}
use Rattle.r4_extent_moves.specs.Moving.{ChangesBody, in_body}
use Rattle.r4_extent_moves.proofs.BytesSet.{flipped, none_put, unset}
use Rattle.r4_extent_moves.proofs.Moved.{byte_then}

none_more : (o : Option ℕ) (t : Bool) → option_or o (cond t None None) ≡ o
none_more None true = refl
none_more None false = refl
none_more (Some x) t = refl

module _ (k : ℕ) where
  -- ---- the keys at which bytes are put

  only_bytes : (ps : Pairs) → last_put (filter (λ (p : ℕ × Value). is_byte p.1) ps) k ≡ last_put ps k
  only_bytes [] = refl
  only_bytes ((q, Byte x) ∷ ps) = ap (λ (o : Option ℕ). option_or o (cond (q == k) (Some x) None)) (only_bytes ps)
  only_bytes ((q, Stat a) ∷ ps) = only_bytes ps ∙ sym (none_more (last_put ps k) (q == k))
  only_bytes ((q, Entry n o) ∷ ps) = only_bytes ps ∙ sym (none_more (last_put ps k) (q == k))

  -- ---- something stands there

  abbrev Some_of : Option Value → Type 0
  Some_of o = (v : Value) × (o ≡ Some v)

  abbrev PutOrStood : Pairs → Option Value → Type 0
  PutOrStood ps v = ((x : ℕ) × (last_put ps k ≡ Some x)) ⊎ Some_of v

  one_put : (p : ℕ × Value) (ps : Pairs) (v : Option Value) → PutOrStood (p ∷ ps) v → PutOrStood ps (cond (k == p.0) (Some p.1) v)
  one_put p ps v (inr stood) = inr (by (k == p.0))
    where
      by : (t : Bool) → Some_of (cond t (Some p.1) v)
      by true = (p.1, refl)
      by false = stood
  one_put p ps v (inl (x, put)) = by (last_put ps k) refl put
    where
      by : (o : Option ℕ) → last_put ps k ≡ o → option_or o (cond (p.0 == k) (byte_of p.1) None) ≡ Some x → PutOrStood ps (cond (k == p.0) (Some p.1) v)
      by (Some y) is h = inl (y, is)
      by None is h = inr (at (p.0 == k) refl h)
        where
          at : (t : Bool) → (p.0 == k) ≡ t → cond t (byte_of p.1) None ≡ Some x → Some_of (cond (k == p.0) (Some p.1) v)
          at true same h = (p.1, ap (λ (t : Bool). cond t (Some p.1) v) (flipped p.0 k true same))
          at false other h = absurd (none-some x h)

  some_there : (ps : Pairs) (v : Option Value) → PutOrStood ps v → Some_of (laws.last_put ps k v)
  some_there [] v (inl (x, put)) = absurd (none-some x put)
  some_there [] v (inr stood) = stood
  some_there (p ∷ ps) v at = some_there ps (cond (k == p.0) (Some p.1) v) (one_put p ps v at)

module _ (b : Body) (e : Edits) (u : Store Value) (raw n : Content) (h : ChangesBody b e u raw n) (end : ℕ) (suit : SuitLeaves end e)
    (k x : ℕ) (set : byte_set e k ≡ Some x) where
  of_body : is_body k ≡ true
  of_body = elim (cases_Bool (is_body k)) [
    | inl on ↦ on
    | inr off ↦
        let (zeros, puts) = or_parts (is_in (put_keys (flat_map zero_pairs e.zeros)) k) (is_in (put_keys (filter (λ (p : ℕ × Value). is_byte p.1) e.puts)) k)
        (sym (in_both (flat_map zero_pairs e.zeros) (filter (λ (p : ℕ × Value). is_byte p.1) e.puts) k) ∙ bodies_only end (bytes_set e) k suit.bytes off) in
        let no_put : last_put e.puts k ≡ None = sym (only_bytes k e.puts) ∙ none_put (filter (λ (p : ℕ × Value). is_byte p.1) e.puts) k puts in
        let no_zero : is_in e.zeros k ≡ false = sym (zeros_keys e.zeros k) ∙ zeros in
        let none : byte_set e k ≡ None = (λ i. option_or (no_put i) (cond (no_zero i) (Some 0) None)) in
        absurd (none-some x (sym none ∙ set))
  ]

  changes : is_in (changed e) k ≡ true
  changes = elim (cases_Bool (is_in (changed e) k)) [
    | inl on ↦ on
    | inr off ↦ absurd (none-some x (sym (unset e k off) ∙ set))
  ]

  pub lies_in : (in_body b k ≡ true) × (k < end_after b)
  lies_in =
      let on = h.one k changes of_body in
      let (v, at) = some_there k e.puts (cond (is_in e.zeros k) (Some (Byte 0)) (cond (is_in e.cuts k) None (at_key n k))) (put_or_zero (last_put e.puts k) refl) in
      (on, (byte_then b e u raw n h k on v (at_edited e n k ∙ at)).2)
    where
      put_or_zero : (o : Option ℕ) → last_put e.puts k ≡ o
          → PutOrStood k e.puts (cond (is_in e.zeros k) (Some (Byte 0)) (cond (is_in e.cuts k) None (at_key n k)))
      put_or_zero (Some y) is = inl (y, is)
      put_or_zero None is = inr (by (is_in e.zeros k) (ap (λ (o : Option ℕ). option_or o (cond (is_in e.zeros k) (Some 0) None)) (sym is) ∙ set))
        where
          by : (t : Bool) → cond t (Some 0) None ≡ Some x → Some_of k (cond t (Some (Byte 0)) (cond (is_in e.cuts k) None (at_key n k)))
          by true h = (Byte 0, refl)
          by false h = absurd (none-some x h)
