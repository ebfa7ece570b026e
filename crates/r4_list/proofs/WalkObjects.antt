-- What a content says of the objects that its entries name, and of the way to them from the root.
use Rattle.std.proofs.Common.{◌≡◌, ◌≢◌, ℕ, zero, suc, ◌^◌, ◌<◌, Bool, true, false, cond, nat_eq, nat_lt, ◌&&◌, List, Option, Some, None, refl, sym, ap, subst, ◌∙◌, arith}
use Rattle.std.specs.FinMap.{entries}
use Rattle.std.proofs.lemmas.Bool.{and_from, eq-eqb, lt-ltb}
use Rattle.std.proofs.lemmas.Option.{same_Some}
use Rattle.r4_base.specs.Image.{Image, block_at}
use Rattle.r4_base.specs.Key.{key_of_rank}
use Rattle.r4_base.specs.Name.{dir_of_key}
use Rattle.r4_base.specs.Value.{Value, Stat, Entry, Byte, Content, at_key}
use Rattle.r4_base.specs.Volume.{HasContent, HasEntry, HasStat, IsReached, is_directory, links_to, names_object, root_object, stat_rank}
use Rattle.r4_base.specs.declared.things.Oid.{Oid}
use Rattle.r4_base.specs.declared.items.Attr.{Attr}
use Rattle.r4_base.specs.declared.items.Target.{Target}
use Rattle.r4_base.proofs.Superblocks.{read_lawful}
use Rattle.r4_content.specs.Walk.{attr_at, attr_in, may_be_object}
use Rattle.r4_list.proofs.WalkEntries.{counted_once, entry_there, one_counted}

-- ---- values

same_oid : (a b : Oid) → a.0 ≡ b.0 → a ≡ b
same_oid a b e i = record { 0 = e i }

attr_is : (v : Option Value) (a : Attr) → attr_in v ≡ Some a → v ≡ Some (Stat a)
attr_is None a e = absurd cc
attr_is (Some (Stat b)) a e = ap (λ (x : Attr). Some (Stat x)) (same_Some b a e)
attr_is (Some (Entry s o)) a e = absurd cc
attr_is (Some (Byte x)) a e = absurd cc

-- attributes are those of stat data
pub attr_stat : (m : Content) (o : Target) (a : Attr) → attr_at m o ≡ Some a → at_key m (stat_rank o) ≡ Some (Stat a)
attr_stat m o a e = split (may_be_object o) e
  where
    split : (b : Bool) → cond b (attr_in (at_key m (stat_rank o))) None ≡ Some a → at_key m (stat_rank o) ≡ Some (Stat a)
    split true is = attr_is (at_key m (stat_rank o)) a is
    split false is = absurd cc

named_itself : (o : Target) (s : List ℕ) → names_object o (Entry s o) ≡ true
named_itself o s =
    let first = and_from (nat_eq o.locality o.locality) (nat_eq o.ordering o.ordering) (eq-eqb _ _ refl) (eq-eqb _ _ refl) in
    and_from (nat_eq o.locality o.locality && nat_eq o.ordering o.ordering) (nat_eq o.oid.0 o.oid.0) first (eq-eqb _ _ refl)

-- ---- a content

module _ (n : ℕ) (image : Image) (m : Content) (c : HasContent n image m) where
  -- an entry, or stat data, stands in the content where it is a unit
  pub raw_at : (k : ℕ) (v : Value) → at_key m k ≡ Some v → at_key c.raw k ≡ Some v
  raw_at k v at = ((c.visible k v).0 at).0

  pub stat_seen : (o : Target) (a : Attr) → HasStat c.raw o a → HasStat m o a
  stat_seen o a h = (h.0, (c.visible (stat_rank o) (Stat a)).1 (h.1, λ p. p))

  small_id : (o : Target) (a : Attr) → HasStat c.raw o a → o.oid.0 < 2 ^ 60
  small_id o a h =
      let id = (c.ids.ids o a h).1 in
      let next = (read_lawful n (block_at image 17) c.super c.layout.format).0.next_id in
      omega arith

  -- an object has attributes
  pub attr_of_stat : (o : Target) (a : Attr) → HasStat c.raw o a → attr_at m o ≡ Some a
  attr_of_stat o a h =
      let may = and_from (nat_lt o.locality (2 ^ 60)) (nat_lt o.oid.0 (2 ^ 60)) (lt-ltb _ _ h.0.0) (lt-ltb _ _ (small_id o a h)) in
      ap (λ (b : Bool). cond b (attr_in (at_key m (stat_rank o))) None) may ∙ ap attr_in (stat_seen o a h).1

  -- an entry names an object
  pub named_object : (k : ℕ) (s : List ℕ) (o : Target) → at_key m k ≡ Some (Entry s o) → (a : Attr) × (attr_at m o ≡ Some a)
  named_object k s o at = let (a, h) = c.objects.target k s o (raw_at k (Entry s o) at) in (a, attr_of_stat o a h)

  pub entry_raw : (p o : Target) → HasEntry m p o → HasEntry c.raw p o
  entry_raw p o (k, s, at, dir) = (k, s, raw_at k (Entry s o) at, dir)

  pub reached_raw : (steps : ℕ) (o : Target) → IsReached m steps o → IsReached c.raw steps o
  reached_raw zero o r = r
  reached_raw (suc steps) o (p, r, e) = (p, reached_raw steps p r, entry_raw p o e)

  -- what is reached is an object
  pub reached_stat : (steps : ℕ) (o : Target) → IsReached c.raw steps o → (a : Attr) × HasStat c.raw o a
  reached_stat zero o r = let (a, h, dir) = c.objects.root in (a, subst (λ (p : Target). HasStat c.raw p a) (sym r) h)
  reached_stat (suc steps) o (p, r, (k, s, at, dir)) = c.objects.target k s o at

  not_root : (k : ℕ) (s : List ℕ) (o : Target) → at_key c.raw k ≡ Some (Entry s o) → o ≢ root_object
  not_root k s o at e =
      let some = one_counted (λ (u : ℕ × Value). names_object o u.1) (entries c.raw) (k, Entry s o) (entry_there c.raw k (Entry s o) at) (named_itself o s) in
      let none : links_to c.raw o ≡ 0 = ap (links_to c.raw) e ∙ c.objects.root_unnamed in
      absurd (omega arith)

  -- one entry names a directory
  pub one_entry : (o : Target) (a : Attr) (j k : ℕ) (s t : List ℕ) → HasStat c.raw o a → is_directory a ≡ true → at_key c.raw j ≡ Some (Entry s o) → at_key c.raw k ≡ Some (Entry t o) → j ≡ k
  one_entry o a j k s t h dir one two =
      let links = c.objects.named_once o a h dir (not_root j s o one) in
      ap (λ (u : ℕ × Value). u.0)
      (counted_once (λ (u : ℕ × Value). names_object o u.1) (entries c.raw) (j, Entry s o) (k, Entry t o) (omega arith)
      (entry_there c.raw j (Entry s o) one) (entry_there c.raw k (Entry t o) two) (named_itself o s) (named_itself o t))

  pub same_object : (o p : Target) (a b : Attr) → HasStat c.raw o a → HasStat c.raw p b → o.oid.0 ≡ p.oid.0 → o ≡ p
  same_object o p a b h g e = c.objects.one_id o p a b h g (same_oid o.oid p.oid e)

  -- the directory in which a reached entry stands
  holder_stat : (steps k : ℕ) (s : List ℕ) (p o : Target) → IsReached c.raw steps p → at_key c.raw k ≡ Some (Entry s o) → dir_of_key (key_of_rank k) ≡ p.oid.0
      → (a : Attr) × HasStat c.raw p a × (is_directory a ≡ true)
  holder_stat steps k s p o r at dir =
      let (q, a, h, is, in_dir) = c.objects.holder k s o at in
      let (b, g) = reached_stat steps p r in
      let same = same_object q p a b h g (sym in_dir ∙ dir) in
      (a, subst (λ (t : Target). HasStat c.raw t a) same h, is)

  -- a directory is reached by one number of steps
  pub one_depth : (s t : ℕ) (o : Target) (a : Attr) → HasStat c.raw o a → is_directory a ≡ true → IsReached c.raw s o → IsReached c.raw t o → s ≡ t
  one_depth zero zero o a h dir r q = refl
  one_depth zero (suc t) o a h dir r (p, q, (k, name, at, in_dir)) = absurd (not_root k name o at r)
  one_depth (suc s) zero o a h dir (p, q, (k, name, at, in_dir)) r = absurd (not_root k name o at r)
  one_depth (suc s) (suc t) o a h dir (p, r, (j, x, one, in_p)) (q, u, (k, y, two, in_q)) =
      let (b, g, is) = holder_stat s j x p o r one in_p in
      let (d, f) = reached_stat t q u in
      let key = one_entry o a j k x y h dir one two in
      let same = same_object q p d b f g (sym in_q ∙ ap (λ (i : ℕ). dir_of_key (key_of_rank i)) (sym key) ∙ in_p) in
      ap suc (one_depth s t p b g is r (subst (λ (v : Target). IsReached c.raw t v) same u))
