-- Contents that commands make of the root alone are lawful, where their paths are of bytes and their ids are new.
use Rattle.std.specs.Prelude.{◌≡◌, ◌+◌, ◌/◌, ◌%◌, ◌^◌, ◌<◌, ℕ, List, [], ◌∷◌, Bool, All, length, nat_lt, true, false}
use Rattle.std.specs.Prelude.{not, ◌&&◌, ◌==◌, Some, T, cond}
use Rattle.std.proofs.Common.{arith, refl, sym, ap, subst, ◌∙◌}
use Rattle.std.proofs.lemmas.Bool.{eq-eqb, eqb-true, ltb-true}
use Rattle.std.proofs.lemmas.List.Elements.{All-cons, All-nil}
use Rattle.std.specs.Cmp.{unsigned_tied}
use Rattle.std.specs.FinMap.{find}
use Rattle.std.specs.Ordering.{nat_cmp}
use Rattle.r4_base.specs.Key.{rank}
use Rattle.r4_base.specs.Value.{Stat, Value}
use Rattle.r4_base.specs.Volume.{IsObject, stat_rank}
use Rattle.r4_base.specs.declared.items.Attr.{Attr}
use Rattle.r4_base.specs.declared.items.Target.{Target}
use Rattle.r4_content.specs.Edited.{Pairs}
use Rattle.r4_content.specs.Examples.{at, id, x}
use Rattle.r4_content.specs.Fields.{HasBytePaths, HasBytes, IsUnused, NamesUnused}
use Rattle.r4_content.specs.Lawful.{IsLawful, RoomFor}
use Rattle.r4_content.specs.Listed.{list_after}
use Rattle.r4_content.specs.Meaning.{greatest_size}
use Rattle.r4_content.specs.Seen.{Rises}
use Rattle.r4_content.specs.declared.command.Command.{Command}
use Rattle.r4_content.specs.declared.command.Command.TheVariants.{Create, Mkdir, Write, Fill, Truncate, Read}
use Rattle.r4_content.specs.declared.command.Command.TheVariants.{Stat as Ask, Names, Link, Unlink, Rmdir, Rename}
use Rattle.r4_content.specs.declared.command.Command.TheVariants.{Chmod, Chown, Times, Begin, End, Commit}
use Rattle.r4_content.proofs.Counting.{first_holds, second_holds}
use Rattle.r4_content.proofs.EditParts.{true_not_false}
use Rattle.r4_content.proofs.SeenLaws.{at_content, content_of, list_command}
use Rattle.r4_content.proofs.Staying.{lawful_stays}
use Rattle.r4_content.proofs.Widths.{links_after, room_after}
use Rattle.r4_content_rows.specs.Conditions.{root_alone}
use Rattle.r4_content_rows.proofs.FileAlone.{alone_lawful, one_object}

-- ---- ids that no object of a list has

abbrev pub are_others : (oid : ℕ) → Pairs → Bool
are_others n [] = true
are_others n (e ∷ s) = not (e.0 / 2 ^ 64 % 2 ^ 64 == n) && are_others n s

not_it : (b : Bool) → T (not b) → b ≡ true → ⊥
not_it true h e = h
not_it false h e = true_not_false (sym e)

other_key : (n : ℕ) (s : Pairs) (k : ℕ) (v : Value) → T (are_others n s) → find nat_cmp k s ≡ Some v
    → k / 2 ^ 64 % 2 ^ 64 ≡ n → ⊥
other_key n [] k v h e is = absurd cc
other_key n (p ∷ s) k v h e is =
    split (k == p.0) refl (sym (ap (λ (b : Bool). cond b (Some p.1) (find nat_cmp k s)) (unsigned_tied k p.0)) ∙ e)
    (other_key n s k v (second_holds (not (p.0 / 2 ^ 64 % 2 ^ 64 == n)) (are_others n s) h))
  where
    split : (b : Bool) → (k == p.0) ≡ b → cond b (Some p.1) (find nat_cmp k s) ≡ Some v
        → (find nat_cmp k s ≡ Some v → k / 2 ^ 64 % 2 ^ 64 ≡ n → ⊥) → ⊥
    split true same at rest = not_it (p.0 / 2 ^ 64 % 2 ^ 64 == n)
        (first_holds (not (p.0 / 2 ^ 64 % 2 ^ 64 == n)) (are_others n s) h)
        (eq-eqb (p.0 / 2 ^ 64 % 2 ^ 64) n (ap (λ (j : ℕ). j / 2 ^ 64 % 2 ^ 64) (sym (eqb-true k p.0 same)) ∙ is))
    split false same at rest = rest at is

third_number : (o : Target) → IsObject o → stat_rank o / 2 ^ 64 % 2 ^ 64 ≡ o.oid.0
unfolding rank
third_number o is = let i = is.2 in omega (arith, i)

pub unused_in : (n : ℕ) (s : Pairs) → Rises s → T (are_others n s) → IsUnused (content_of s) (id n)
unused_in n s r h o a there same = other_key n s (stat_rank o) (Stat a) h
    (sym (at_content s (stat_rank o) r) ∙ there.1) (third_number o there.0 ∙ ap (λ i. i.0) same)

-- ---- one command after another

record IsGood (n : ℕ) (s : Pairs) : Type 0 where
  rises : Rises s
  lawful : IsLawful greatest_size (content_of s)
  room : RoomFor n (content_of s)

good_after : (n : ℕ) (c : Command) (s : Pairs) → IsGood (n + 1 + 1) s → HasBytePaths c → NamesUnused (content_of s) c
    → IsGood (n + 1) (list_after greatest_size c s)
good_after n c s g bytes unused =
    let done = list_command greatest_size c s g.rises in
    let lt : greatest_size < 2 ^ 64 = omega arith in
    let stays = lawful_stays greatest_size c (content_of s) lt g.lawful bytes unused in
    let left = room_after greatest_size c (content_of s) (n + 1) lt g.lawful bytes unused g.room in
    record {
      rises = done.2;
      lawful = subst (IsLawful greatest_size) done.0 (record {
        objects = stays.0;
        bodies = stays.1;
        room = λ o a h dir. let l = left o a h dir in omega (arith, l);
        links = links_after greatest_size c (content_of s) lt g.lawful bytes unused;
      });
      room = subst (RoomFor (n + 1)) done.0 left;
    }

-- ---- a run

abbrev pub are_bytes : List ℕ → Bool
are_bytes [] = true
are_bytes (x ∷ n) = nat_lt x 256 && are_bytes n

abbrev pub is_of_bytes : List (List ℕ) → Bool
is_of_bytes [] = true
is_of_bytes (n ∷ path) = are_bytes n && is_of_bytes path

-- the commands that make contents here: paths of bytes, and new ids
abbrev pub may_run : Command → Pairs → Bool
may_run (Create path oid) s = is_of_bytes path && are_others oid.0 s
may_run (Mkdir path oid) s = is_of_bytes path && are_others oid.0 s
may_run (Write path offset text) s = is_of_bytes path
may_run (Link from to) s = is_of_bytes from && is_of_bytes to
may_run (Rename from to) s = is_of_bytes from && is_of_bytes to
may_run c s = false

abbrev pub may_run_all : List Command → Pairs → Bool
may_run_all [] s = true
may_run_all (c ∷ cs) s = may_run c s && may_run_all cs (list_after greatest_size c s)

abbrev pub list_after_all : List Command → Pairs → Pairs
list_after_all [] s = s
list_after_all (c ∷ cs) s = list_after_all cs (list_after greatest_size c s)

holds : (b : Bool) → T b → b ≡ true
holds true h = refl
holds false h = absurd h

first_good : (n : ℕ) → n < 2 ^ 61 → IsGood n root_alone
first_good n few = record {
  rises = tt;
  lawful = alone_lawful greatest_size;
  room = λ p b g dir. let e = ap (λ (y : Attr). y.size) (one_object p b g).1 in omega (arith, e, few);
}

are_less : (n : List ℕ) → T (are_bytes n) → All (λ x. x < 256) n
are_less [] h = All-nil (λ x. x < 256)
are_less (x ∷ n) h = All-cons (λ x. x < 256) x n
    (ltb-true x 256 (holds (nat_lt x 256) (first_holds (nat_lt x 256) (are_bytes n) h)))
    (are_less n (second_holds (nat_lt x 256) (are_bytes n) h))

pub of_bytes : (path : List (List ℕ)) → T (is_of_bytes path) → HasBytes path
of_bytes [] h = All-nil (λ n. All (λ x. x < 256) n)
of_bytes (n ∷ path) h = All-cons (λ n. All (λ x. x < 256) n) n path
    (are_less n (first_holds (are_bytes n) (is_of_bytes path) h))
    (of_bytes path (second_holds (are_bytes n) (is_of_bytes path) h))

may : (c : Command) (s : Pairs) → Rises s → T (may_run c s) → HasBytePaths c × NamesUnused (content_of s) c
may (Create path oid) s r h = (
  of_bytes path (first_holds (is_of_bytes path) (are_others oid.0 s) h),
  unused_in oid.0
      s r (second_holds (is_of_bytes path) (are_others oid.0 s) h),
)
may (Mkdir path oid) s r h = (
  of_bytes path (first_holds (is_of_bytes path) (are_others oid.0 s) h),
  unused_in oid.0 s
      r (second_holds (is_of_bytes path) (are_others oid.0 s) h),
)
may (Write path offset text) s r h = (of_bytes path h, tt)
may (Link from to) s r h = (
  (
    of_bytes from (first_holds (is_of_bytes from) (is_of_bytes to) h),
    of_bytes to
        (second_holds (is_of_bytes from) (is_of_bytes to) h),
  ),
  tt,
)
may (Rename from to) s r h = (
  (
    of_bytes from (first_holds (is_of_bytes from) (is_of_bytes to) h),
    of_bytes to
        (second_holds (is_of_bytes from) (is_of_bytes to) h),
  ),
  tt,
)
may (Fill path offset len byte) s r h = absurd h
may (Truncate path size) s r h = absurd h
may (Read path offset len) s r h = absurd h
may (Ask path) s r h = absurd h
may (Names path) s r h = absurd h
may (Unlink path) s r h = absurd h
may (Rmdir path) s r h = absurd h
may (Chmod path mode) s r h = absurd h
may (Chown path uid gid) s r h = absurd h
may (Times path atime mtime ctime) s r h = absurd h
may Begin s r h = absurd h
may End s r h = absurd h
may Commit s r h = absurd h

good_run : (n : ℕ) (cs : List Command) (s : Pairs) → IsGood (length cs + (n + 1)) s → T (may_run_all cs s)
    → IsGood (n + 1) (list_after_all cs s)
good_run n [] s g h = let none : 0 + (n + 1) ≡ n + 1 = omega arith in subst (λ (k : ℕ). IsGood k s) none g
good_run n (c ∷ cs) s g h =
    let one = may c s g.rises (first_holds (may_run c s) (may_run_all cs (list_after greatest_size c s)) h) in
    let room : length (c ∷ cs) + (n + 1) ≡ length cs + n + 1 + 1 = omega arith in
    let left : length cs + n + 1 ≡ length cs + (n + 1) = omega arith in
    let next = good_after (length cs + n) c s (subst (λ (k : ℕ). IsGood k s) room g) one.0 one.1 in
    good_run n cs (list_after greatest_size c s)
    (subst (λ (k : ℕ). IsGood k (list_after greatest_size c s)) left next)
    (second_holds (may_run c s) (may_run_all cs (list_after greatest_size c s)) h)

-- what commands make of the root alone
pub run_lawful : (cs : List Command) → length cs < 2 ^ 60 → T (may_run_all cs root_alone)
    → IsLawful greatest_size (content_of (list_after_all cs root_alone))
run_lawful cs few h = (good_run 0 cs root_alone (first_good (length cs + 1) (omega (arith, few))) h).lawful
