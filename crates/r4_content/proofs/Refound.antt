-- A path is found again after edits that leave what is on it.
use Rattle.std.specs.Prelude.{◌≡◌, ℕ, ◌^◌, ◌<◌, List, [], ◌∷◌, true, All, Some}
use Rattle.std.proofs.Common.{arith, lit<, ap, ◌∙◌}
use Rattle.std.proofs.lemmas.List.Elements.{All-head, All-tail}
use Rattle.r4_base.specs.Value.{Entry, Content, at_key}
use Rattle.r4_base.specs.Volume.{IsObject, is_directory, root_object}
use Rattle.r4_base.specs.declared.items.Attr.{Attr}
use Rattle.r4_base.specs.declared.items.Target.{Target}
use Rattle.r4_content.specs.Fields.{HasBytes}
use Rattle.r4_content.specs.Objects.{entry_rank}
use Rattle.r4_content.specs.Walk.{attr_at, target_in}
use Rattle.r4_content.specs.Ways.{Place}
use Rattle.r4_content.proofs.Found.{NotDirectory, There, down, found, found_from, go_attr, small_object, start, stat_there}
use Rattle.r4_content.proofs.Ranks.{root_is_object}
use Rattle.r4_content.proofs.SameWay.{down_with, place_in, place_with, root_there, step_is, steps_on, target_is}

module _ (m after : Content) (g : Target → Attr → Attr) (Goes : Target → Attr → Type 0) (p : Place)
    (kind : (t : Target) (a : Attr) → IsObject t → attr_at m t ≡ Some a → is_directory (g t a) ≡ is_directory a)
    (orderings : (k : ℕ) (n : List ℕ) (t : Target) → at_key m k ≡ Some (Entry n t) → t.ordering < 2 ^ 64)
    (same_entry : (d : Target) (n : List ℕ) (t : Target) (a : Attr) → d.oid.0 < 2 ^ 60 → All (λ x. x < 256) n → target_in n (at_key m (entry_rank d n)) ≡ Some t → attr_at m t ≡ Some a → Goes t a
    → target_in n (at_key after (entry_rank d n)) ≡ Some t)
    (same_stat : (t : Target) (a : Attr) → IsObject t → attr_at m t ≡ Some a → Goes t a → attr_at after t ≡ Some (g t a))
    (on : (path : List (List ℕ)) (q : Place) → HasBytes path → IsObject q.here.target → q.here.target.oid.0 < 2 ^ 60 → attr_at m q.here.target ≡ Some q.here.attr → found_from m path q ≡ There p → Goes q.here.target q.here.attr) where
  pub way_on : (path : List (List ℕ)) (q : Place) → HasBytes path → IsObject q.here.target → attr_at m q.here.target ≡ Some q.here.attr → q.here.target.oid.0 < 2 ^ 60 → found_from m path q ≡ There p → found_from after path (place_with g q) ≡ There (place_with g p)
  way_on [] q bytes is_q stat_q small e = ap (λ (x : Place). There (place_with g x)) (place_in q p e)
  way_on (n ∷ path) q bytes is_q stat_q small e =
      let s = step_is m n path q p e in
      let may = small_object s.target (stat_there m s.target s.attr s.stat).0 in
      let ordering = orderings (entry_rank q.here.target n) n s.target (target_is n (at_key m (entry_rank q.here.target n)) s.target s.entry) in
      let object : IsObject s.target = (may.0, ordering, omega (arith, may)) in
      let rest = All-tail (λ x. All (λ y. y < 256) x) n path bytes in
      let goes = on path (down q s.target s.attr) rest object may.1 s.stat s.rest in
      let dir : is_directory (g q.here.target q.here.attr) ≡ true = kind q.here.target q.here.attr is_q stat_q ∙ s.dir in
      let entry = same_entry q.here.target n s.target s.attr small (All-head (λ x. All (λ y. y < 256) x) n path bytes) s.entry s.stat goes in
      let stat = same_stat s.target s.attr object s.stat goes in
      steps_on after n path (place_with g q) s.target (g s.target s.attr) dir entry stat ∙ ap (found_from after path) (down_with g q s.target s.attr)
      ∙ way_on path (down q s.target s.attr) rest object s.stat may.1 s.rest

  pub found_on : (path : List (List ℕ)) → HasBytes path → found m path ≡ There p → found after path ≡ There (place_with g p)
  found_on path bytes e =
      let (a, stat, rest) = root_there p (λ a. found_from m path (start a)) (attr_at m root_object) e in
      let goes = on path (start a) bytes root_is_object (lit< tt) stat rest in
      ap (go_attr NotDirectory (λ a. found_from after path (start a))) (same_stat root_object a root_is_object stat goes) ∙ way_on path (start a) bytes root_is_object stat (lit< tt) rest
