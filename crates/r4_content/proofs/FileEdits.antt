-- Edits of a file: they change its stat data and its bytes alone, so the way to it stays.
use Rattle.std.specs.Prelude.{◌≡◌, ◌≢◌, ℕ, ◌+◌, ◌^◌, ◌<◌, ◌≤◌, List, Bool, true, false, ◌==◌, cond, nat_lt, All, Some, None, length, if◌then◌else◌}
use Rattle.std.proofs.Common.{arith, refl, sym, ap, ◌∙◌}
use Rattle.std.proofs.lemmas.Bool.{eq-eqb, eqb-true, ne_eqb, or_from}
use Rattle.std.proofs.lemmas.Option.{same_Some}
use Rattle.std.specs.FinMap.{insert}
use Rattle.r4_base.specs.Value.{Value, Stat, Content, at_key}
use Rattle.r4_base.specs.Volume.{IsObject, byte_rank, is_directory, stat_rank}
use Rattle.r4_base.specs.declared.items.Attr.{Attr}
use Rattle.r4_base.specs.declared.items.Target.{Target}
use Rattle.r4_content.specs.Bodies.{fill_gap, resize}
use Rattle.r4_content.specs.Edited.{Edits, edited, is_between, no_edits}
use Rattle.r4_content.specs.Fields.{HasNumbers}
use Rattle.r4_content.specs.Objects.{Object, cut_body, entry_rank, is_same_target, set_attr, set_body, sized, zero_body}
use Rattle.r4_content.specs.Walk.{attr_at, attr_in, may_be_object, target_in}
use Rattle.r4_content.specs.Ways.{Place}
use Rattle.r4_content.proofs.BytePairs.{keys_in}
use Rattle.r4_content.proofs.EditLaws.{at_insert, edited_off, one_key}
use Rattle.r4_content.proofs.EditParts.{IsOff, is_off, true_not_false}
use Rattle.r4_content.proofs.Found.{There, found, stat_there}
use Rattle.r4_content.proofs.Ranks.{byte_after, entry_not_byte, entry_not_stat, in_body, same_itself, same_stat, stat_not_byte, told_same}
use Rattle.r4_content.proofs.SameWay.{IsThere, found_again, place_with}

-- ---- which keys the parts leave

-- a key that is or_from of the object's stat data nor of one of its bytes
pub record IsElsewhere (t : Target) (k : ℕ) : Type 0 where
  pub stat : k ≢ stat_rank t
  pub bytes : (x : ℕ) → x < 2 ^ 64 → k ≢ byte_rank t x

pub off_nothing : (k : ℕ) → IsOff no_edits k
off_nothing k = record { puts = refl; zeros = refl; cuts = refl }

pub off_attr : (o : Object) (a : Attr) (k : ℕ) → k ≢ stat_rank o.target → IsOff (set_attr o a) k
off_attr o a k ne = record { puts = or_from _ false (one_key k (stat_rank o.target) ∙ ne_eqb k (stat_rank o.target) ne) refl; zeros = refl; cuts = refl }

pub off_resize : (o : Object) (n k : ℕ) → k ≢ stat_rank o.target → IsOff (resize o n) k
off_resize o n k ne = by_size (o.attr.size == n)
  where
    by_size : (b : Bool) → IsOff (if b then no_edits else set_attr o (sized o.attr n)) k
    by_size true = off_nothing k
    by_size false = off_attr o (sized o.attr n) k ne

pub not_in_body : (t : Target) (from to k : ℕ) → to ≤ 2 ^ 64 → ((x : ℕ) → x < 2 ^ 64 → k ≢ byte_rank t x) → is_between (byte_rank t from) (byte_rank t to) k ≡ false
not_in_body t from to k le ne = told (is_between (byte_rank t from) (byte_rank t to) k) refl
  where
    told : (b : Bool) → is_between (byte_rank t from) (byte_rank t to) k ≡ b → b ≡ false
    told false e = refl
    told true e = let (x, is, low, high) = in_body t from to k e in absurd (ne x (omega arith) is)

pub off_zeros : (o : Object) (from to k : ℕ) → to ≤ 2 ^ 64 → ((x : ℕ) → x < 2 ^ 64 → k ≢ byte_rank o.target x) → IsOff (zero_body o from to) k
off_zeros o from to k le ne = record { puts = refl; zeros = or_from _ false (not_in_body o.target from to k le ne) refl; cuts = refl }

pub off_cuts : (o : Object) (from to k : ℕ) → to ≤ 2 ^ 64 → ((x : ℕ) → x < 2 ^ 64 → k ≢ byte_rank o.target x) → IsOff (cut_body o from to) k
off_cuts o from to k le ne = record { puts = refl; zeros = refl; cuts = or_from _ false (not_in_body o.target from to k le ne) refl }

pub off_gap : (o : Object) (to k : ℕ) → to ≤ 2 ^ 64 → ((x : ℕ) → x < 2 ^ 64 → k ≢ byte_rank o.target x) → IsOff (fill_gap o to) k
off_gap o to k le ne = by_size (nat_lt o.attr.size to)
  where
    by_size : (b : Bool) → IsOff (if b then zero_body o o.attr.size to else no_edits) k
    by_size true = off_zeros o o.attr.size to k le ne
    by_size false = off_nothing k

pub off_body : (o : Object) (from : ℕ) (xs : List ℕ) (k : ℕ) → from + length xs ≤ 2 ^ 64 → ((x : ℕ) → x < 2 ^ 64 → k ≢ byte_rank o.target x) → IsOff (set_body o from xs) k
off_body o from xs k le ne = record {
  puts = keys_in (byte_rank o.target from) xs k ∙ ap (λ (to : ℕ). is_between (byte_rank o.target from) to k) (sym (byte_after o.target from (length xs))) ∙ not_in_body o.target from (from + length xs) k le ne;
  zeros = refl;
  cuts = refl;
}

pub put_itself : (m : Content) (k : ℕ) (v : Value) → at_key (insert m k v) k ≡ Some v
put_itself m k v = at_insert m k v k ∙ ap (λ (b : Bool). cond b (Some v) (at_key m k)) (eq-eqb k k refl)

-- ---- the size

abbrev pub resized : ℕ → Attr → Attr
resized n a = if a.size == n then a else sized a n

pub resized_kind : (n : ℕ) (a : Attr) → is_directory (resized n a) ≡ is_directory a
resized_kind n a = by_size (a.size == n)
  where
    by_size : (b : Bool) → is_directory (if b then a else sized a n) ≡ is_directory a
    by_size true = refl
    by_size false = refl

pub resized_size : (n : ℕ) (a : Attr) → (resized n a).size ≡ n
resized_size n a = by_size (a.size == n) refl
  where
    by_size : (b : Bool) → (a.size == n) ≡ b → (if b then a else sized a n).size ≡ n
    by_size true e = eqb-true _ _ e
    by_size false e = refl

pub resized_stat : (o : Object) (n : ℕ) (m : Content) → at_key m (stat_rank o.target) ≡ Some (Stat o.attr) → at_key (edited (resize o n) m) (stat_rank o.target) ≡ Some (Stat (resized n o.attr))
resized_stat o n m h = by_size (o.attr.size == n)
  where
    by_size : (b : Bool) → at_key (edited (if b then no_edits else set_attr o (sized o.attr n)) m) (stat_rank o.target) ≡ Some (Stat (if b then o.attr else sized o.attr n))
    by_size true = h
    by_size false = put_itself m (stat_rank o.target) (Stat (sized o.attr n))

-- ---- the way to the file stays

pub attr_of : (m : Content) (t : Target) (a : Attr) → may_be_object t ≡ true → at_key m (stat_rank t) ≡ Some (Stat a) → attr_at m t ≡ Some a
attr_of m t a may at = ap (λ (b : Bool). if b then attr_in (at_key m (stat_rank t)) else None) may ∙ ap attr_in at

pub other_stat : (u t : Target) → IsObject u → IsObject t → is_same_target u t ≡ false → stat_rank u ≢ stat_rank t
other_stat u t hu ht e same = true_not_false (sym (same_itself u) ∙ ap (is_same_target u) (same_stat u t hu ht same) ∙ e)

-- only the file has another size
abbrev pub with_size : Target → ℕ → Target → Attr → Attr
with_size t n u a = if is_same_target u t then resized n a else a

pub with_size_kind : (t : Target) (n : ℕ) (u : Target) (a : Attr) → is_directory (with_size t n u a) ≡ is_directory a
with_size_kind t n u a = by_target (is_same_target u t)
  where
    by_target : (b : Bool) → is_directory (if b then resized n a else a) ≡ is_directory a
    by_target true = resized_kind n a
    by_target false = refl

pub record EditsFile (m : Content) (o : Object) (n : ℕ) (e : Edits) : Type 0 where
  pub elsewhere : (k : ℕ) → IsElsewhere o.target k → IsOff e k
  pub size : at_key (edited e m) (stat_rank o.target) ≡ Some (Stat (resized n o.attr))

pub file_again : (m : Content) (path : List (List ℕ)) (p : Place) (n : ℕ) (e : Edits) → HasNumbers m → All (All (λ x. x < 256)) path → found m path ≡ There p → IsThere m p.here → EditsFile m p.here n e
    → found (edited e m) path ≡ There (place_with (with_size p.here.target n) p)
file_again m path p n e numbers bytes at there h =
    found_again m (edited e m) (with_size p.here.target n) (λ t a. Unit {0}) (λ t a d. tt) (with_size_kind p.here.target n) numbers.orderings entries stats path p bytes at tt
  where
    entries : (d : Target) (name : List ℕ) (t : Target) (a : Attr) → d.oid.0 < 2 ^ 60 → All (λ x. x < 256) name → target_in name (at_key m (entry_rank d name)) ≡ Some t → attr_at m t ≡ Some a → Unit {0}
        → target_in name (at_key (edited e m) (entry_rank d name)) ≡ Some t
    entries d name t a small bytes entry stat _ =
        let off = is_off e (entry_rank d name) (h.elsewhere (entry_rank d name) (record {
          stat = λ is. entry_not_stat d p.here.target name small bytes there.object is;
          bytes = λ x lt is. entry_not_byte d p.here.target name x small bytes there.object lt is;
        })) in
        ap (target_in name) (edited_off e m (entry_rank d name) off) ∙ entry

    stats : (t : Target) (a : Attr) → IsObject t → attr_at m t ≡ Some a → Unit {0} → attr_at (edited e m) t ≡ Some (with_size p.here.target n t a)
    stats t a object stat _ = by_target (is_same_target t p.here.target) refl
      where
        by_target : (b : Bool) → is_same_target t p.here.target ≡ b → attr_at (edited e m) t ≡ Some (if b then resized n a else a)
        by_target true same =
            let is = told_same t p.here.target same in
            let one : a ≡ p.here.attr = same_Some a p.here.attr (sym stat ∙ ap (attr_at m) is ∙ there.stat) in
            attr_of (edited e m) t (resized n a) (stat_there m t a stat).0 (ap (λ (u : Target). at_key (edited e m) (stat_rank u)) is ∙ h.size ∙ ap (λ (b : Attr). Some (Stat (resized n b))) (sym one))
        by_target false other =
            let old = stat_there m t a stat in
            let off = is_off e (stat_rank t) (h.elsewhere (stat_rank t) (record {
              stat = other_stat t p.here.target object there.object other;
              bytes = λ x lt is. stat_not_byte t p.here.target x object there.object lt is;
            })) in
            attr_of (edited e m) t a old.0 (edited_off e m (stat_rank t) off ∙ old.1)
