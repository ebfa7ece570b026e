-- A way is found again where what is on it stays, whatever the content.
use Rattle.std.specs.Prelude.{◌≡◌, ◌≢◌, ℕ, List, [], ◌∷◌, Some, true}
use Rattle.std.proofs.Common.{sym, ap, ◌∙◌}
use Rattle.r4_base.specs.Value.{Content, Entry, Stat, at_key}
use Rattle.r4_base.specs.Volume.{is_directory, root_object, stat_rank}
use Rattle.r4_base.specs.declared.items.Attr.{Attr}
use Rattle.r4_base.specs.declared.items.Target.{Target}
use Rattle.r4_content.specs.Objects.{entry_rank, is_dir}
use Rattle.r4_content.specs.Walk.{attr_at, target_in}
use Rattle.r4_content.specs.Ways.{Place}
use Rattle.r4_content.proofs.FileEdits.{attr_of}
use Rattle.r4_content.proofs.Found.{NotDirectory, There, down, found, found_from, go_attr, start, stat_there}
use Rattle.r4_content.proofs.SameWay.{down_with, itself_in, place_in, place_with, root_there, step_is, steps_on}
use Rattle.r4_content.proofs.SameWay.{target_is}

-- stat data are no entry
no_entry : (a : Attr) (s : List ℕ) (t : Target) → Some (Stat a) ≡ Some (Entry s t) → ⊥
no_entry a s t e = cc

pub apart : (m : Content) (k j : ℕ) (a : Attr) (s : List ℕ) (t : Target) → at_key m k ≡ Some (Entry s t)
    → at_key m j ≡ Some (Stat a) → k ≢ j
apart m k j a s t entry stat same = no_entry a s t (sym stat ∙ ap (at_key m) (sym same) ∙ entry)

-- what is found has its attributes in the content
pub found_attr : (m : Content) (path : List (List ℕ)) (q p : Place) → attr_at m q.here.target ≡ Some q.here.attr
    → found_from m path q ≡ There p → attr_at m p.here.target ≡ Some p.here.attr
found_attr m [] q p stat e = sym (ap (λ (x : Place). attr_at m x.here.target) (place_in q p e)) ∙ stat
    ∙ ap (λ (x : Place). Some x.here.attr) (place_in q p e)
found_attr m (s ∷ path) q p stat e = let st = step_is m s path q p e in found_attr m path
    (down q st.target st.attr) p st.stat st.rest

pub attr_found : (m : Content) (path : List (List ℕ)) (p : Place) → found m path ≡ There p
    → attr_at m p.here.target ≡ Some p.here.attr
attr_found m path p e =
    let (a, stat, rest) = root_there p (λ a. found_from m path (start a)) (attr_at m root_object) e in
    found_attr m path (start a) p stat rest

-- `On` is what is known of a place and of the path that is left there
module _ (m n : Content) (g : Target → Attr → Attr) (p : Place) (On : List (List ℕ) → Place → Type 0)
    (kind : (t : Target) (a : Attr) → at_key m (stat_rank t) ≡ Some (Stat a) → is_directory (g t a) ≡ is_directory a)
    (on : (s : List ℕ) (path : List (List ℕ)) (q : Place) (t : Target) (a : Attr) → On (s ∷ path) q
    → is_dir q.here ≡ true → target_in s (at_key m (entry_rank q.here.target s)) ≡ Some t → attr_at m t ≡ Some a
    → On path (down q t a))
    (entry : (s : List ℕ) (path : List (List ℕ)) (q : Place) (t : Target) (a : Attr) → On (s ∷ path) q
    → is_dir q.here ≡ true → found_from m path (down q t a) ≡ There p → attr_at m t ≡ Some a
    → at_key m (entry_rank q.here.target s) ≡ Some (Entry s t)
    → at_key n (entry_rank q.here.target s) ≡ Some (Entry s t))
    (stat : (path : List (List ℕ)) (q : Place) → On path q → found_from m path q ≡ There p
    → attr_at m q.here.target ≡ Some q.here.attr → at_key m (stat_rank q.here.target) ≡ Some (Stat q.here.attr)
    → at_key n (stat_rank q.here.target) ≡ Some (Stat (g q.here.target q.here.attr))) where
  attr_still : (path : List (List ℕ)) (q : Place) → On path q → found_from m path q ≡ There p
      → attr_at m q.here.target ≡ Some q.here.attr → attr_at n q.here.target ≡ Some (g q.here.target q.here.attr)
  attr_still path q o e there =
      let was = stat_there m q.here.target q.here.attr there in
      attr_of n q.here.target (g q.here.target q.here.attr) was.0 (stat path q o e there was.1)

  pub way : (path : List (List ℕ)) (q : Place) → On path q → attr_at m q.here.target ≡ Some q.here.attr
      → found_from m path q ≡ There p → found_from n path (place_with g q) ≡ There (place_with g p)
  way [] q o there e = ap (λ (x : Place). There (place_with g x)) (place_in q p e)
  way (s ∷ path) q o there e =
      let st = step_is m s path q p e in
      let next = on s path q st.target st.attr o st.dir st.entry st.stat in
      let at = entry s path q st.target st.attr o st.dir st.rest st.stat
      (target_is s (at_key m (entry_rank q.here.target s)) st.target st.entry) in
      let now = attr_still path (down q st.target st.attr) next st.rest st.stat in
      steps_on n s path (place_with g q) st.target (g st.target st.attr)
      (kind q.here.target q.here.attr (stat_there m q.here.target q.here.attr there).1 ∙ st.dir)
      (ap (target_in s) at ∙ itself_in s st.target) now
      ∙ ap (found_from n path) (down_with g q st.target st.attr)
      ∙ way path (down q st.target st.attr) next st.stat st.rest

  pub way_again : (path : List (List ℕ)) → ((a : Attr) → attr_at m root_object ≡ Some a → On path (start a))
      → found m path ≡ There p → found n path ≡ There (place_with g p)
  way_again path first e =
      let (a, stat_root, rest) = root_there p (λ a. found_from m path (start a)) (attr_at m root_object) e in
      let o = first a stat_root in
      ap (go_attr NotDirectory (λ a. found_from n path (start a))) (attr_still path (start a) o rest stat_root)
      ∙ way path (start a) o stat_root rest
