-- The edits of these commands are such as leaves can take.
use Rattle.std.proofs.Common.{◌≡◌, inl, inr, ℕ, ◌<◌, ◌≤◌, true, false, [], ◌∷◌, refl, arith}
use Rattle.std.specs.Prelude.{All, None}
use Rattle.std.proofs.Math.Dec.{lit<}
use Rattle.std.proofs.lemmas.List.Elements.{All-cons, All-nil}
use Rattle.r4_base.specs.Key.{key_of_rank, least, rank, top}
use Rattle.r4_base.specs.Name.{bad_byte, key_of_name, name_fault, packed}
use Rattle.r4_base.specs.Value.{Value}
use Rattle.r4_content.specs.Edited.{Intervals, Pairs, changed, is_in}
use Rattle.r4_content.specs.Seen.{Rises}
use Rattle.r4_content.specs.Ways.{to_file, to_free, to_object, to_parent}
use Rattle.r4_leaf_edits.specs.Suiting.{bytes_set, IsBefore, IsLawfulPut, SuitLeaves}
use Rattle.r4_leaf_edits.specs.Made.{spread_keys}
use Rattle.r4_reach.specs.Touched.{body_on, edits_on}
use Rattle.r4_build.proofs.r4_work.Remade.{or_true}
use Rattle.r4_build.proofs.r4_work.UnitMembers.{between}
use Rattle.r4_build_testing.specs.Commands.{chmod_file, create_file, file_seen, fresh_seen, mixed}
use Rattle.r4_build_testing.specs.Commands.{set_times, write_file}
use Rattle.r4_build_testing.specs.Small.{AreLawful}

-- what holds of each of a list, one after another
abbrev Each : (ℕ × Value → Type 0) → Pairs → Type 0
Each P [] = Unit {0}
Each P (x ∷ xs) = P x × Each P xs

all_of : (P : ℕ × Value → Type 0) (xs : Pairs) → Each P xs → All P xs
all_of P [] h = All-nil P
all_of P (x ∷ xs) h = All-cons P x xs h.0 (all_of P xs h.1)

-- each interval lies among the keys that items may have
LieLow : Intervals → Type 0
LieLow [] = Unit {0}
LieLow (r ∷ rs) = (least ≤ r.0) × (r.1 ≤ top) × LieLow rs

lawful_keys : (rs : Intervals) → LieLow rs → (k : ℕ) → is_in rs k ≡ true → (least ≤ k) × (k < top)
unfolding LieLow
lawful_keys [] low k on = absurd cc
lawful_keys (r ∷ rs) (from, to, rest) k on = elim (or_true _ (is_in rs k) on) [
  | inl h ↦ let (a, b) = between r.0 r.1 k h in (omega (arith, from, a), omega (arith, to, b))
  | inr h ↦ lawful_keys rs rest k h
]

pub fresh_rises : Rises fresh_seen
fresh_rises = tt

pub file_rises : Rises file_seen
unfolding rank least key_of_name packed
file_rises = tt

pub chmod_lawful : AreLawful (edits_on chmod_file fresh_seen)
unfolding to_object name_fault bad_byte rank least key_of_name packed LieLow
chmod_lawful = record {
  suit = record { once = tt; bytes = All-nil (IsBefore 16384); values = All-nil IsLawfulPut };
  keys = λ k on. lawful_keys [] tt k on;
}

pub times_lawful : AreLawful (edits_on set_times fresh_seen)
unfolding to_object rank least top LieLow key_of_rank
times_lawful = record {
  suit = record {
    once = tt;
    bytes = all_of (IsBefore 16384) (bytes_set (edits_on set_times fresh_seen)) tt;
    values = all_of IsLawfulPut (edits_on set_times fresh_seen).puts ((refl, refl), tt);
  };
  keys = λ k on. lawful_keys (changed (edits_on set_times fresh_seen)) (omega arith, omega arith, tt) k on;
}

pub create_lawful : AreLawful (edits_on create_file fresh_seen)
unfolding to_object to_parent to_free name_fault bad_byte key_of_name packed rank least top LieLow key_of_rank
create_lawful = record {
  suit = record {
    once = tt;
    bytes = all_of (IsBefore 16384) (bytes_set (edits_on create_file fresh_seen)) tt;
    values = all_of IsLawfulPut (edits_on create_file fresh_seen).puts (record { legal = refl; key = refl }, ((refl, refl), ((refl, refl), tt)));
  };
  keys = λ k on. lawful_keys (changed (edits_on create_file fresh_seen)) (omega arith, omega arith, (omega arith, omega arith, (omega arith, omega arith, tt))) k on;
}

pub write_lawful : AreLawful (edits_on write_file file_seen)
unfolding to_object to_file name_fault bad_byte key_of_name packed rank least top LieLow key_of_rank
write_lawful = record {
  suit = record {
    once = (refl, (refl, (refl, (refl, (refl, tt)))));
    bytes = all_of (IsBefore 16384) (bytes_set (edits_on write_file file_seen)) ((refl, lit< tt), ((refl, lit< tt), ((refl, lit< tt), ((refl, lit< tt), ((refl, lit< tt), tt)))));
    values = all_of IsLawfulPut (edits_on write_file file_seen).puts (tt, (tt, (tt, (tt, (tt, ((refl, refl), tt))))));
  };
  keys = λ k on. lawful_keys (changed (edits_on write_file file_seen)) (omega arith, omega arith, (omega arith, omega arith, (omega arith, omega arith, (omega arith, omega arith, (omega arith, omega arith, (omega arith, omega arith, tt)))))) k on;
}

pub mixed_suits : SuitLeaves 16384 mixed
unfolding rank least key_of_rank
mixed_suits = record {
  once = (refl, (refl, (refl, (refl, (refl, (refl, (refl, (refl, (refl, tt)))))))));
  bytes = all_of (IsBefore 16384) (bytes_set mixed) ((refl, lit< tt), ((refl, lit< tt), ((refl, lit< tt), ((refl, lit< tt), ((refl, lit< tt), ((refl, lit< tt), ((refl, lit< tt), ((refl, lit< tt), ((refl, lit< tt), tt)))))))));
  values = all_of IsLawfulPut mixed.puts (tt, (tt, (tt, (tt, (tt, (tt, (tt, (tt, (tt, ((refl, refl), tt))))))))));
}

-- ---- no body stands in extents

pub chmod_tails : spread_keys (body_on chmod_file fresh_seen false) ≡ None
unfolding to_object name_fault bad_byte rank least key_of_name packed
chmod_tails = refl

pub times_tails : spread_keys (body_on set_times fresh_seen false) ≡ None
unfolding to_object rank least top key_of_rank
times_tails = refl

pub create_tails : spread_keys (body_on create_file fresh_seen false) ≡ None
unfolding to_object to_parent to_free name_fault bad_byte key_of_name packed rank least top key_of_rank
create_tails = refl

pub write_tails : spread_keys (body_on write_file file_seen false) ≡ None
unfolding to_object to_file name_fault bad_byte key_of_name packed rank least top key_of_rank
write_tails = refl
