-- The workload keeps the rules of jobs.
use Rattle.std.proofs.Common.{◌≡◌, ℕ, ◌+◌, ◌/◌, ◌%◌, ◌≤◌, Bool, true, false, List, [], ◌∷◌, ◌++◌, map, flat_map, Result, Ok, Err, IfOk, if◌then◌else◌, ◌==◌, refl, sym, subst, arith}
use Rattle.std.specs.List.{AllByRecursion, enumerate_from, filter}
use Rattle.std.proofs.lemmas.List.{append-nil, append_assoc}
use Rattle.r4_content.specs.declared.command.Command.{Command}
use Rattle.r4_content.specs.declared.command.Command.TheVariants.{Commit, Unlink}
use Rattle.r4_script.specs.declared.job.Job.{Job}
use Rattle.r4_script.specs.Grammar.{IsNameByte}
use Rattle.r4_script.specs.Spelling.{AreInOrder, AreNames, AreScripts, IsCommand, IsScript}
use Rattle.r4_gen.specs.Workload.{commit_behind, digits, directories_of, directory_made, directory_path, directory_thinned, each_directory, file_made, file_path, files_in, script_of, workload_of}

-- ---- names

digit_is_of_a_name : (n : ℕ) → IsNameByte (48 + n % 10)
digit_is_of_a_name n = record { above = omega arith; plain = λ same. omega (arith, same); no_slash = λ same. omega (arith, same) }

digits_are_of_a_name : (units : List ℕ) (n : ℕ) → AllByRecursion IsNameByte (digits units n)
digits_are_of_a_name [] n = tt
digits_are_of_a_name (unit ∷ units) n = (digit_is_of_a_name (n / unit), digits_are_of_a_name units n)

letter : (x : ℕ) → 100 ≤ x → x ≤ 102 → IsNameByte x
letter x low high = record {
  above = omega (arith, low);
  plain = λ same. omega (arith, same, high);
  no_slash = λ same. omega (arith, same, low);
}

of_directory : (d : ℕ) → AreNames (directory_path d)
of_directory d = record {
  bytes = ((letter 100 (omega arith) (omega arith), digits_are_of_a_name (100 ∷ 10 ∷ 1 ∷ []) d), tt);
  some = λ same. absurd (cc);
}

of_file : (i : ℕ) → AreNames (file_path i)
of_file i = record {
  bytes = (
    (letter 100 (omega arith) (omega arith), digits_are_of_a_name (100 ∷ 10 ∷ 1 ∷ []) (i / 100)),
    ((letter 102 (omega arith) (omega arith), digits_are_of_a_name (10000 ∷ 1000 ∷ 100 ∷ 10 ∷ 1 ∷ []) i), tt),
  );
  some = λ same. absurd (cc);
}

-- ---- commands outside of a transaction, behind which none is open

record Whole (cs : List Command) : Type 0 where
  each : AllByRecursion IsCommand cs
  before : (rest : List Command) → AreInOrder false rest → AreInOrder false (cs ++ rest)

nothing : Whole []
nothing = record { each = tt; before = λ rest h. h }

all_append : (xs ys : List Command) → AllByRecursion IsCommand xs → AllByRecursion IsCommand ys
    → AllByRecursion IsCommand (xs ++ ys)
all_append [] ys f g = g
all_append (x ∷ xs) ys f g = (f.0, all_append xs ys f.1 g)

and_then : (xs ys : List Command) → Whole xs → Whole ys → Whole (xs ++ ys)
and_then xs ys f g = record {
  each = all_append xs ys f.each g.each;
  before = λ rest h. subst (AreInOrder false) (sym (append_assoc xs ys rest))
      (f.before (ys ++ rest) (g.before rest h));
}

all_whole : {X : Type 0} (f : X → List Command) → ((x : X) → Whole (f x)) → (xs : List X) → Whole (flat_map f xs)
all_whole f each [] = nothing
all_whole f each (x ∷ xs) = and_then (f x) (flat_map f xs) (each x) (all_whole f each xs)

file_is_whole : (seed i : ℕ) → Whole (file_made seed i)
file_is_whole seed i = record {
  each = (tt, ((refl, of_file i), ((of_file i, omega arith, omega arith, omega arith), (tt, tt))));
  before = λ rest h. (true, ((refl, refl), (true, (refl, (true, (refl, (false, ((refl, refl), h))))))));
}

directory_is_whole : (seed d : ℕ) → Whole (directory_made seed d)
directory_is_whole seed d =
    let files = all_whole (file_made seed) (file_is_whole seed) (files_in d) in
    record { each = ((refl, of_directory d), files.each); before = λ rest h. (false, (refl, files.before rest h)) }

unlinks_are_whole : (files : List ℕ) → Whole (map (λ i. Unlink (file_path i)) files)
unlinks_are_whole [] = nothing
unlinks_are_whole (i ∷ files) =
    let more = unlinks_are_whole files in
    record { each = (of_file i, more.each); before = λ rest h. (false, (refl, more.before rest h)) }

chosen_commit_is_whole : (b : Bool) → Whole (if b then Commit ∷ [] else [])
chosen_commit_is_whole true = record { each = (tt, tt); before = λ rest h. (false, ((refl, refl), h)) }
chosen_commit_is_whole false = nothing

each_is_whole : (done : ℕ → List Command) → ((d : ℕ) → Whole (done d)) → (s : ℕ) → Whole (each_directory done s)
each_is_whole done whole s =
    all_whole (λ (e : ℕ × ℕ). done e.1 ++ commit_behind e.0)
    (λ e. and_then (done e.1) (commit_behind e.0) (whole e.1) (chosen_commit_is_whole (e.0 % 5 == 0)))
    (enumerate_from 1 (directories_of s))

-- ---- scripts

script_is_lawful : (seed s : ℕ) → IsScript (script_of seed s)
script_is_lawful seed s =
    let made = each_directory (directory_made seed) s in
    let thinned = each_directory directory_thinned s in
    let whole : Whole (made ++ thinned) = and_then made thinned
    (each_is_whole (directory_made seed) (directory_is_whole seed) s)
    (each_is_whole directory_thinned (λ d. unlinks_are_whole (filter (λ i. i % 2 == 0) (files_in d))) s) in
    (whole.each, subst (AreInOrder false) (append-nil (made ++ thinned)) (whole.before [] tt))

pub workload_is_lawful : (seed : ℕ) → AreScripts (workload_of seed).scripts
workload_is_lawful seed = record {
  few = omega arith;
  each = (
    script_is_lawful seed 1,
    (script_is_lawful seed 2, (script_is_lawful seed 3, (script_is_lawful seed 4, tt))),
  );
}

pub job_is_lawful : {E : Type 0} (seed : ℕ) (r : Result Job E) → IfOk r (λ job. job ≡ workload_of seed)
    → IfOk r (λ job. AreScripts job.scripts)
job_is_lawful seed (Ok job) h = subst (λ (j : Job). AreScripts j.scripts) (sym h) (workload_is_lawful seed)
job_is_lawful seed (Err e) h = tt
