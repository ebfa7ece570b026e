-- A step below the place above a path's last name.
use Rattle.std.proofs.Common.{◌≡◌, ◌<◌, ◌^◌, ◌-◌, ℕ, List, [], length, get_or, ap, sym, ◌∙◌, arith}
use Rattle.std.proofs.lemmas.List.{get_or_default}
use Rattle.std.specs.Prelude.{slice_index}
use Rattle.r4_base.specs.Name.{key_of_name}
use Rattle.r4_base.specs.declared.key.Key.{Key}
use Rattle.r4_content.specs.Course.{ending}
use Rattle.r4_content.specs.Edited.{Pairs}
use Rattle.r4_content.specs.Seen.{of_seen}
use Rattle.r4_content.specs.Ways.{Place, step, to_entry}
use Rattle.r4_content.specs.declared.reply.Reply.{Reply}
use Rattle.r4_dir.specs.Coming.{Comes, ComesEntry, ComesParent, Stops, StopsEntry, StopsParent, last_of}

module _ (path : List (List ℕ)) (s : Pairs) (r : Reply) (p : Place) (h : ComesParent r path s p) where
  pub entry_comes : (n : List ℕ) (q : Place) → n ≡ last_of path → Comes (λ next. step n next p) s q → ComesEntry r path s p.here q
  unfolding to_entry
  entry_comes n q e c next = h (λ x t. step t (λ y. next x.here t y) x) ∙ ap (λ t. ending (step t (λ y. next p.here (last_of path) y) p) (of_seen s)) (sym e) ∙ c (λ y. next p.here (last_of path) y)

  pub entry_stops : (n : List ℕ) (f : Reply) → n ≡ last_of path → Stops (λ next. step n next p) s f → StopsEntry r path s f
  unfolding to_entry
  entry_stops n f e c next = h (λ x t. step t (λ y. next x.here t y) x) ∙ ap (λ t. ending (step t (λ y. next p.here (last_of path) y) p) (of_seen s)) (sym e) ∙ c (λ y. next p.here (last_of path) y)

pub entry_stops_above : (path : List (List ℕ)) (s : Pairs) (r e : Reply) → StopsParent r path s e → StopsEntry r path s e
unfolding to_entry
entry_stops_above path s r e h next = h (λ x t. step t (λ y. next x.here t y) x)

-- a name's key is not among the last of all
pub name_low : (k : Key) (dir : ℕ) (n : List ℕ) → k ≡ key_of_name dir n → dir < 2 ^ 60 → slice_index k.el 0 < 2 ^ 64 - 1
unfolding key_of_name
name_low k dir n e lt = let same = ap (λ (x : Key). slice_index x.el 0) e in omega (arith, same, lt)

pub last_is : (path : List (List ℕ)) (n : List ℕ) → 0 < length path → n ≡ get_or path (length path - 1) n → n ≡ last_of path
last_is path n long e = e ∙ get_or_default path (length path - 1) n [] (omega (arith, long))
