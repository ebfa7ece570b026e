-- Edits that set no byte: a few keys and bodies go, and a few attributes and entries come.
use Rattle.std.specs.Prelude.{◌≡◌, ℕ, ◌+◌, ◌%◌, ◌*◌, ◌^◌, ◌<◌, ◌≤◌, List, [], ◌++◌, length, Bool, true, false, ◌==◌}
use Rattle.std.specs.Prelude.{nat_le, All, Some, None, if◌then◌else◌}
use Rattle.std.proofs.Common.{arith, refl, sym, ap, ◌∙◌}
use Rattle.std.specs.Ordering.{nat_cmp}
use Rattle.std.specs.FinMap.{find}
use Rattle.std.proofs.lemmas.List.{length-append}
use Rattle.std.proofs.lemmas.List.Elements.{All-append, All-cons, All-nil}
use Rattle.r4_base.specs.Key.{minor_of}
use Rattle.r4_base.specs.Name.{key_of_name, name_fault}
use Rattle.r4_base.specs.Stat.{kind_is_good}
use Rattle.r4_base.specs.Value.{Entry, Stat, Value}
use Rattle.r4_base.specs.Volume.{IsObject, stat_rank}
use Rattle.r4_base.specs.declared.items.Attr.{Attr}
use Rattle.r4_base.specs.declared.items.Target.{Target}
use Rattle.r4_content.specs.Edited.{Edits, Pairs, and_also, no_edits}
use Rattle.r4_content.specs.Entries.{moved, moved_onto, name_in, set_parents, unname_in, without}
use Rattle.r4_content.specs.Objects.{Object, cut_body, cut_key, entry_less, entry_more, entry_rank, is_dir, is_same}
use Rattle.r4_content.specs.Objects.{link_less, set_attr, set_entry, sized, unnamed}
use Rattle.r4_content.specs.Walk.{may_be_object}
use Rattle.r4_content.proofs.Found.{small_object}
use Rattle.r4_content.proofs.Shapes.{entry_back, entry_dir, stat_back}
use Rattle.r4_leaf_edits.specs.Suiting.{IsLawfulPut, is_byte}
use Rattle.r4_leaf_edits.specs.r4_reach.Reach.{is_body}

-- a name, of bytes
abbrev pub IsName : List ℕ → Type 0
IsName n = All (λ x. x < 256) n × (name_fault n ≡ None)

-- An object that was found in what was seen.
pub record IsHere (s : Pairs) (o : Object) : Type 0 where
  pub found : find nat_cmp (stat_rank o.target) s ≡ Some (Stat o.attr)
  pub may : may_be_object o.target ≡ true
  pub object : IsObject o.target
  pub kind : kind_is_good o.attr.mode ≡ true

-- attributes or an entry, as leaves can take them
abbrev pub IsValue : ℕ × Value → Type 0
IsValue p = IsLawfulPut p × (is_byte p.1 ≡ false)

-- no byte is set, at most n values come, and at most m keys or bodies go
pub record AreFew (n m : ℕ) (e : Edits) : Type 0 where
  pub zeros : e.zeros ≡ []
  pub values : All IsValue e.puts
  pub puts : length e.puts ≤ n
  pub cuts : length e.cuts ≤ m

-- ---- one value

no_body : (l : ℕ) → ((l * 16 + 1) % 16 == 4) ≡ false
no_body l = let one : (l * 16 + 1) % 16 ≡ 1 = omega arith in ap (λ (x : ℕ). x == 4) one

pub stat_off : (t : Target) → IsObject t → is_body (stat_rank t) ≡ false
stat_off t is = ap (λ k. minor_of k == 4) (stat_back t is) ∙ no_body t.locality

stat_value : (t : Target) (a : Attr) → IsObject t → kind_is_good a.mode ≡ true → IsValue (stat_rank t, Stat a)
stat_value t a is kind = ((kind, stat_off t is), refl)

entry_value : (d : Target) (n : List ℕ) (t : Target) → d.oid.0 < 2 ^ 60 → IsName n → IsValue (entry_rank d n, Entry n t)
entry_value d n t small name = (
  record {
    legal = name.1;
    key = ap (λ (x : ℕ). key_of_name x n) (entry_dir d n small name.0).0
        ∙ sym (entry_back d n small name.0);
  },
  refl,
)

-- ---- kinds stay

pub sized_kind : (a : Attr) (n : ℕ) → (sized a n).mode ≡ a.mode
sized_kind a n = refl

more_kind : (d : Bool) (a : Attr) → (entry_more d a).mode ≡ a.mode
more_kind true a = refl
more_kind false a = refl

less_kind : (d : Bool) (a : Attr) → (entry_less d a).mode ≡ a.mode
less_kind true a = refl
less_kind false a = refl

good : (m n : ℕ) → m ≡ n → kind_is_good n ≡ true → kind_is_good m ≡ true
good m n e h = ap kind_is_good e ∙ h

-- ---- the parts

pub few_none : AreFew 0 0 no_edits
few_none = record { zeros = refl; values = All-nil IsValue; puts = omega arith; cuts = omega arith }

pub few_attr : (o : Object) (a : Attr) → IsObject o.target → kind_is_good a.mode ≡ true → AreFew 1 0 (set_attr o a)
few_attr o a is kind = record {
  zeros = refl;
  values = All-cons IsValue (stat_rank o.target, Stat a) [] (stat_value o.target a is kind) (All-nil IsValue);
  puts = omega arith;
  cuts = omega arith;
}

few_entry : (d : Object) (n : List ℕ) (t : Target) → d.target.oid.0 < 2 ^ 60 → IsName n → AreFew 1 0 (set_entry d n t)
few_entry d n t small name = record {
  zeros = refl;
  values = All-cons IsValue (entry_rank d.target n, Entry n t) [] (entry_value d.target n t small name)
      (All-nil IsValue);
  puts = omega arith;
  cuts = omega arith;
}

few_key : (k : ℕ) → AreFew 0 1 (cut_key k)
few_key k = record { zeros = refl; values = All-nil IsValue; puts = omega arith; cuts = omega arith }

pub few_body : (o : Object) (from to : ℕ) → AreFew 0 1 (cut_body o from to)
few_body o from to = record { zeros = refl; values = All-nil IsValue; puts = omega arith; cuts = omega arith }

pub few_both : (n m p q : ℕ) (e f : Edits) → AreFew n m e → AreFew p q f → AreFew (n + p) (m + q) (and_also e f)
few_both n m p q e f a b =
    let x = a.puts in
    let y = b.puts in
    let z = length-append e.puts f.puts in
    let u = a.cuts in
    let v = b.cuts in
    let w = length-append e.cuts f.cuts in
    record {
      zeros = ap (λ rs. rs ++ f.zeros) a.zeros ∙ b.zeros;
      values = All-append IsValue e.puts f.puts a.values b.values;
      puts = omega (arith, x, y, z);
      cuts = omega (arith, u, v, w);
    }

pub few_less : (n m p q : ℕ) (e : Edits) → n ≤ p → m ≤ q → AreFew n m e → AreFew p q e
few_less n m p q e le lf h =
    let x = h.puts in
    let u = h.cuts in
    record { zeros = h.zeros; values = h.values; puts = omega (arith, le, x); cuts = omega (arith, lf, u) }

-- ---- what commands make of them

small_id : (s : Pairs) (o : Object) → IsHere s o → o.target.oid.0 < 2 ^ 60
small_id s o h = (small_object o.target h.may).1

pub few_named : (s : Pairs) (dir : Object) (n : List ℕ) (o : Object) → IsHere s dir → IsName n → IsObject o.target
    → kind_is_good o.attr.mode ≡ true → AreFew 4 3 (name_in dir n o)
few_named s dir n o h name is kind = few_less 3 0 4 3 (name_in dir n o) (omega arith) (omega arith)
    (few_both 1 0 2 0 (set_entry dir n o.target)
    (and_also (set_attr o o.attr) (set_attr dir (entry_more (is_dir o) dir.attr)))
    (few_entry dir n o.target (small_id s dir h) name)
    (few_both 1 0 1 0 (set_attr o o.attr) (set_attr dir (entry_more (is_dir o) dir.attr)) (few_attr o o.attr is kind)
    (few_attr dir (entry_more (is_dir o) dir.attr) h.object
    (good _ dir.attr.mode (more_kind (is_dir o) dir.attr) h.kind))))

few_gone : (s : Pairs) (o : Object) → IsHere s o → AreFew 1 2 (unnamed o)
few_gone s o h = by_kind (is_dir o) (nat_le o.attr.nlink 1)
  where
    by_kind : (d last : Bool) → AreFew 1 2
        (if d then cut_key (stat_rank o.target) else if last then and_also (cut_key (stat_rank o.target))
        (cut_body o 0 o.attr.size) else set_attr o (link_less o.attr))
    by_kind true last = few_less 0 1 1 2 (cut_key (stat_rank o.target)) (omega arith) (omega arith)
        (few_key (stat_rank o.target))
    by_kind false true = few_less 0 2 1 2 (and_also (cut_key (stat_rank o.target)) (cut_body o 0 o.attr.size))
        (omega arith) (omega arith)
        (few_both 0 1 0 1 (cut_key (stat_rank o.target)) (cut_body o 0 o.attr.size) (few_key (stat_rank o.target))
        (few_body o 0 o.attr.size))
    by_kind false false = few_less 1 0 1 2 (set_attr o (link_less o.attr)) (omega arith) (omega arith)
        (few_attr o (link_less o.attr) h.object h.kind)

pub few_unnamed : (s : Pairs) (dir : Object) (n : List ℕ) (o : Object) → IsHere s dir → IsHere s o
    → AreFew 4 3 (unname_in dir n o)
few_unnamed s dir n o h g = few_less 2 3 4 3 (unname_in dir n o) (omega arith) (omega arith)
    (few_both 0 1 2 2 (cut_key (entry_rank dir.target n))
    (and_also (set_attr dir (entry_less (is_dir o) dir.attr)) (unnamed o)) (few_key (entry_rank dir.target n))
    (few_both 1 0 1 2 (set_attr dir (entry_less (is_dir o) dir.attr)) (unnamed o)
    (few_attr dir (entry_less (is_dir o) dir.attr) h.object
    (good _ dir.attr.mode (less_kind (is_dir o) dir.attr) h.kind)) (few_gone s o g)))

-- two directories by their objects and kinds alone
record IsKept (o : Object) : Type 0 where
  object : IsObject o.target
  small : o.target.oid.0 < 2 ^ 60
  kind : kind_is_good o.attr.mode ≡ true

few_parents : (from to : Object) (d : Bool) → IsKept from → IsKept to → AreFew 2 0 (set_parents from to d)
few_parents from to d f t = by_test (is_same from to)
  where
    both_kinds : (entry_more d (entry_less d to.attr)).mode ≡ to.attr.mode
    both_kinds = more_kind d (entry_less d to.attr) ∙ less_kind d to.attr

    by_test : (b : Bool) → AreFew 2 0 (if b then set_attr to (entry_more d (entry_less d to.attr)) else and_also
        (set_attr from (entry_less d from.attr)) (set_attr to (entry_more d to.attr)))
    by_test true = few_less 1 0 2 0 (set_attr to (entry_more d (entry_less d to.attr))) (omega arith) (omega arith)
        (few_attr to (entry_more d (entry_less d to.attr)) t.object (good _ to.attr.mode both_kinds t.kind))
    by_test false = few_both 1 0 1 0 (set_attr from (entry_less d from.attr)) (set_attr to (entry_more d to.attr))
        (few_attr from (entry_less d from.attr) f.object (good _ from.attr.mode (less_kind d from.attr) f.kind))
        (few_attr to (entry_more d to.attr) t.object (good _ to.attr.mode (more_kind d to.attr) t.kind))

few_move : (dir : Object) (n : List ℕ) (o new_dir : Object) (new_name : List ℕ) → IsKept dir → IsKept new_dir
    → IsName new_name → AreFew 3 1 (moved dir n o new_dir new_name)
few_move dir n o new_dir new_name d e name =
    few_both 0 1 3 0 (cut_key (entry_rank dir.target n))
    (and_also (set_entry new_dir new_name o.target) (set_parents dir new_dir (is_dir o)))
    (few_key (entry_rank dir.target n))
    (few_both 1 0 2 0 (set_entry new_dir new_name o.target) (set_parents dir new_dir (is_dir o))
    (few_entry new_dir new_name o.target e.small name) (few_parents dir new_dir (is_dir o) d e))

kept : (s : Pairs) (o : Object) → IsHere s o → IsKept o
kept s o h = record { object = h.object; small = small_id s o h; kind = h.kind }

pub few_moved : (s : Pairs) (dir : Object) (n : List ℕ) (o new_dir : Object) (new_name : List ℕ) → IsHere s dir
    → IsHere s new_dir → IsName new_name → AreFew 4 3 (moved dir n o new_dir new_name)
few_moved s dir n o new_dir new_name d e name = few_less 3 1 4 3 (moved dir n o new_dir new_name) (omega arith)
    (omega arith) (few_move dir n o new_dir new_name (kept s dir d) (kept s new_dir e) name)

pub few_onto : (s : Pairs) (dir : Object) (n : List ℕ) (o new_dir : Object) (new_name : List ℕ) (old : Object)
    → IsHere s dir → IsHere s new_dir → IsHere s old → IsName new_name
    → AreFew 4 3 (moved_onto dir n o new_dir new_name old)
few_onto s dir n o new_dir new_name old d e g name =
    few_both 1 2 3 1 (unnamed old) (moved dir n o (without new_dir old) new_name) (few_gone s old g)
    (few_move dir n o (without new_dir old) new_name (kept s dir d)
    (record {
      object = e.object;
      small = small_id s new_dir e;
      kind = good _ new_dir.attr.mode
          (less_kind (is_dir old) new_dir.attr) e.kind;
    }) name)
