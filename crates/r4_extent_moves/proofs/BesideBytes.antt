-- Where edits set no byte and cut no body, the edits without bytes change the same keys, and set the same there.
use Rattle.std.proofs.Common.{◌≡◌, ℕ, ◌+◌, ◌==◌, Bool, true, false, cond, [], ◌∷◌, Option, Some, None, refl, sym, ap, ◌∙◌}
use Rattle.std.specs.Prelude.{Contains, not, ◌||◌}
use Rattle.std.specs.List.{filter}
use Rattle.std.specs.Option.{option_or}
use Rattle.std.specs.FinMap.{find}
use Rattle.std.specs.Ordering.{nat_cmp}
use Rattle.std.proofs.lemmas.Option.{none-some}
use Rattle.r4_base.specs.Value.{Byte, Entry, Stat, Value, at_key}
use Rattle.r4_content.specs.Edited.{Edits, Intervals, Pairs, changed, is_between, is_in, put_keys}
use Rattle.r4_content.specs.Listed.{list_edited}
use Rattle.r4_content.proofs.SeenLaws.{content_of}
use Rattle.r4_content.proofs.EditLaws.{at_edited, in_changed, one_key}
use Rattle.r4_content.proofs.EditLaws as laws
use Rattle.r4_applied.specs.r4_build.r4_leaf_edits.Suiting.{is_byte}
use Rattle.r4_allowed.specs.r4_extent_change.r4_extent_blocks.Setting.{byte_of, byte_set, last_put}
use Rattle.r4_applied.specs.r4_build.Building.{set_by}
use Rattle.r4_applied.proofs.r4_build.LeafKeys.{listed}
use Rattle.r4_applied.specs.r4_patch.Effect.{in_leaf}
use Rattle.r4_applied.specs.r4_reach.Reach.{is_body}
use Rattle.r4_applied.proofs.r4_build.r4_patch.Members.{here, later}
use Rattle.r4_allowed.specs.r4_extent_change.Beside.{without_bytes}
use Rattle.r4_extent_moves.proofs.BytesSet.{flipped}

both_none : (o p : Option ℕ) → option_or o p ≡ None → (o ≡ None) × (p ≡ None)
both_none None p h = (refl, h)
both_none (Some x) p h = absurd (none-some x (sym h))

module _ (k : ℕ) where
  abbrev left : Pairs → Pairs
  left ps = filter (λ (p : ℕ × Value). not (is_byte p.1)) ps

  abbrev cuts_beside : Intervals → Intervals
  cuts_beside rs = filter (λ (r : ℕ × ℕ). not (is_body r.0)) rs

  -- ---- what is put

  other_key : (q x : ℕ) → cond (q == k) (Some x) None ≡ None → (k == q) ≡ false
  other_key q x none = by (q == k) refl none
    where
      by : (t : Bool) → (q == k) ≡ t → cond t (Some x) None ≡ None → (k == q) ≡ false
      by true is h = absurd (none-some x (sym h))
      by false is h = flipped q k false is

  one_left : (p : ℕ × Value) (ps : Pairs) → cond (p.0 == k) (byte_of p.1) None ≡ None
      → is_in (put_keys (left ps)) k ≡ is_in (put_keys ps) k → is_in (put_keys (left (p ∷ ps))) k ≡ is_in (put_keys (p ∷ ps)) k
  one_left (q, Stat a) ps none rest = ap (λ (t : Bool). is_between q (q + 1) k || t) rest
  one_left (q, Entry n o) ps none rest = ap (λ (t : Bool). is_between q (q + 1) k || t) rest
  one_left (q, Byte x) ps none rest =
      rest ∙ sym (ap (λ (t : Bool). t || is_in (put_keys ps) k) (one_key k q ∙ other_key q x none))

  keys_left : (ps : Pairs) → last_put ps k ≡ None → is_in (put_keys (left ps)) k ≡ is_in (put_keys ps) k
  keys_left [] h = refl
  keys_left (p ∷ ps) h =
      let (rest, one) = both_none (last_put ps k) (cond (p.0 == k) (byte_of p.1) None) h in
      one_left p ps one (keys_left ps rest)

  one_value : (p : ℕ × Value) (ps : Pairs) (v : Option Value) → cond (p.0 == k) (byte_of p.1) None ≡ None
      → ((w : Option Value) → laws.last_put (left ps) k w ≡ laws.last_put ps k w)
      → laws.last_put (left (p ∷ ps)) k v ≡ laws.last_put (p ∷ ps) k v
  one_value (q, Stat a) ps v none rest = rest (cond (k == q) (Some (Stat a)) v)
  one_value (q, Entry n o) ps v none rest = rest (cond (k == q) (Some (Entry n o)) v)
  one_value (q, Byte x) ps v none rest =
      rest v ∙ ap (λ (t : Bool). laws.last_put ps k (cond t (Some (Byte x)) v)) (sym (other_key q x none))

  values_left : (ps : Pairs) → last_put ps k ≡ None → (v : Option Value) → laws.last_put (left ps) k v ≡ laws.last_put ps k v
  values_left [] h v = refl
  values_left (p ∷ ps) h v =
      let (rest, one) = both_none (last_put ps k) (cond (p.0 == k) (byte_of p.1) None) h in
      one_value p ps v one (values_left ps rest)

  -- ---- what is cut

  one_cut : (t : Bool) (r : ℕ × ℕ) (rs : Intervals) → is_body r.0 ≡ t → (is_body r.0 ≡ true → is_between r.0 r.1 k ≡ false)
      → is_in (cuts_beside rs) k ≡ is_in rs k → is_in (cond (not t) (r ∷ cuts_beside rs) (cuts_beside rs)) k ≡ is_in (r ∷ rs) k
  one_cut true r rs is apart rest = rest ∙ sym (ap (λ (t : Bool). t || is_in rs k) (apart is))
  one_cut false r rs is apart rest = ap (λ (t : Bool). is_between r.0 r.1 k || t) rest

  cuts_left : (rs : Intervals) → ((r : ℕ × ℕ) → Contains rs r → is_body r.0 ≡ true → is_between r.0 r.1 k ≡ false)
      → is_in (cuts_beside rs) k ≡ is_in rs k
  cuts_left [] h = refl
  cuts_left (r ∷ rs) h = one_cut (is_body r.0) r rs refl (h r (here r rs)) (cuts_left rs (λ q at. h q (later r q rs at)))

module _ (e : Edits) (k : ℕ) (unset : byte_set e k ≡ None)
    (apart : (r : ℕ × ℕ) → Contains e.cuts r → is_body r.0 ≡ true → is_between r.0 r.1 k ≡ false) where
  no_put : last_put e.puts k ≡ None
  no_put = (both_none (last_put e.puts k) (cond (is_in e.zeros k) (Some 0) None) unset).0

  no_zero : is_in e.zeros k ≡ false
  no_zero = by (is_in e.zeros k) (both_none (last_put e.puts k) (cond (is_in e.zeros k) (Some 0) None) unset).1
    where
      by : (t : Bool) → ◌≡◌ {A = Option ℕ} (cond t (Some 0) None) None → t ≡ false
      by true h = absurd (none-some 0 (sym h))
      by false h = refl

  pub same_keys : is_in (changed (without_bytes e)) k ≡ is_in (changed e) k
  same_keys =
      in_changed (without_bytes e) k
      ∙ ((λ i. keys_left k e.puts no_put i || (sym no_zero i || cuts_left k e.cuts apart i)) ∙ sym (in_changed e k))

  found : (f : Edits) → find nat_cmp k (list_edited f []) ≡ laws.last_put f.puts k (cond (is_in f.zeros k) (Some (Byte 0))
      (cond (is_in f.cuts k) None (at_key (content_of []) k)))
  found f = listed f [] k tt ∙ at_edited f (content_of []) k

  pub same_set : set_by (without_bytes e) k ≡ set_by e k
  same_set = ap in_leaf (found (without_bytes e) ∙ (
      values_left k e.puts no_put (cond (is_in (without_bytes e).cuts k) None (at_key (content_of []) k))
      ∙ ((λ i. laws.last_put e.puts k (cond (sym no_zero i) (Some (Byte 0)) (cond (cuts_left k e.cuts apart i) None (at_key (content_of []) k))))
      ∙ sym (found e))
      ))
