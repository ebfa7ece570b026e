-- The workload is spelled by a text of less than 16 MiB.
use Rattle.std.proofs.Common.{◌≡◌, ℕ, ◌+◌, ◌*◌, ◌%◌, ◌-◌, ◌≤◌, Bool, true, false, List, [], ◌∷◌, ◌++◌, length, map}
use Rattle.std.proofs.Common.{Result, Ok, Err, IfOk, if◌then◌else◌, ◌==◌, codes, decimal, refl, sym, subst, ◌∙◌, arith}
use Rattle.std.proofs.Math.Nat.{mul-suc}
use Rattle.std.proofs.lemmas.Fmt.{length-decimal-le}
use Rattle.std.proofs.lemmas.List.{length-append}
use Rattle.std.proofs.lemmas.List.FromFn.{length-enumerate_from, length-range_with_len}
use Rattle.std.proofs.lemmas.List.Sums.{length-filter, count_by-le-length}
use Rattle.std.specs.List.{enumerate_from, filter, flat_map, range_with_len}
use Rattle.r4_content.specs.declared.command.Command.{Command}
use Rattle.r4_content.specs.declared.command.Command.TheVariants.{Commit, Fill, Unlink}
use Rattle.r4_script.specs.declared.job.Job.{Job}
use Rattle.r4_script.specs.Grammar.{joined}
use Rattle.r4_script.specs.Spelling.{command_text, job_text, path_text, script_lines, scripts_lines}
use Rattle.r4_script.specs.Text.{job_of}
use Rattle.r4_script.proofs.Jobs.{job_again}
use Rattle.r4_script.proofs.Spellings.{job_spells}
use Rattle.r4_gen.specs.Workload.{byte_of, commit_behind, directories_of, directory_made, directory_path}
use Rattle.r4_gen.specs.Workload.{directory_thinned, each_directory, file_made, file_path, files_in, script_of}
use Rattle.r4_gen.specs.Workload.{size_of, workload_of}
use Rattle.r4_gen.proofs.Lawful.{workload_is_lawful}

-- ---- how long texts are

-- of lines, each with its newline
bytes_of : List (List ℕ) → ℕ
bytes_of [] = 0
bytes_of (line ∷ lines) = length line + 1 + bytes_of lines

length_of_lines : (lines : List (List ℕ)) → length (flat_map (λ line. line ++ (10 ∷ [])) lines) ≡ bytes_of lines
unfolding bytes_of
length_of_lines [] = refl
length_of_lines (line ∷ lines) =
    omega (
      arith,
      length-append (line ++ (10 ∷ [])) (flat_map (λ line. line ++ (10 ∷ [])) lines),
      length-append line (10 ∷ []),
      length_of_lines lines,
    )

bytes_of_both : (xs ys : List (List ℕ)) → bytes_of (xs ++ ys) ≡ bytes_of xs + bytes_of ys
unfolding bytes_of
bytes_of_both [] ys = omega arith
bytes_of_both (x ∷ xs) ys = omega (arith, bytes_of_both xs ys)

-- of commands
size : List Command → ℕ
size [] = 0
size (c ∷ cs) = length (command_text c) + 1 + size cs

size_is : (cs : List Command) → bytes_of (map command_text cs) ≡ size cs
unfolding bytes_of size
size_is [] = refl
size_is (c ∷ cs) = omega (arith, size_is cs)

size_of_both : (xs ys : List Command) → size (xs ++ ys) ≡ size xs + size ys
unfolding size
size_of_both [] ys = omega arith
size_of_both (x ∷ xs) ys = omega (arith, size_of_both xs ys)

-- of parts that are no longer than this
size_of_parts : {X : Type 0} (f : X → List Command) (most : ℕ) → ((x : X) → size (f x) ≤ most) → (xs : List X)
    → size (flat_map f xs) ≤ most * length xs
unfolding size
size_of_parts f most each [] = omega arith
size_of_parts f most each (x ∷ xs) =
    omega (
      arith,
      size_of_both (f x) (flat_map f xs),
      each x,
      size_of_parts f most each xs,
      mul-suc most (length xs),
    )

-- ---- the commands of the workload

one_field : (word path : List ℕ) → length (joined (word ∷ path ∷ [])) ≡ length word + 1 + length path
one_field word path = omega (arith, length-append word (32 ∷ path))

four_fields : (word path a b c : List ℕ) → length (joined (word ∷ path ∷ a ∷ b ∷ c ∷ []))
    ≡ length word + length path + length a + length b + length c + 4
four_fields word path a b c =
    omega (
      arith,
      length-append word (32 ∷ path ++ (32 ∷ a ++ (32 ∷ b ++ (32 ∷ c)))),
      length-append path (32 ∷ a ++ (32 ∷ b ++ (32 ∷ c))),
      length-append a (32 ∷ b ++ (32 ∷ c)),
      length-append b (32 ∷ c),
    )

length_of_file : (i : ℕ) → length (path_text (file_path i)) ≡ 12
length_of_file i = refl

length_of_directory : (d : ℕ) → length (path_text (directory_path d)) ≡ 5
length_of_directory d = refl

length_of_fill : (seed i : ℕ) → length (command_text (Fill (file_path i) 0 (size_of seed i) (byte_of i))) ≤ 28
length_of_fill seed i =
    omega (
      arith,
      four_fields (codes "fill") (path_text (file_path i)) (decimal 0) (decimal (size_of seed i))
          (decimal (byte_of i)),
      length_of_file i,
      length-decimal-le 1 0 (omega arith) (omega arith) (omega arith),
      length-decimal-le 4 (size_of seed i) (omega arith) (omega arith) (omega arith),
      length-decimal-le 3 (byte_of i) (omega arith) (omega arith) (omega arith),
    )

size_of_file : (seed i : ℕ) → size (file_made seed i) ≤ 59
unfolding size
size_of_file seed i =
    omega (arith, length_of_fill seed i, one_field (codes "create") (path_text (file_path i)), length_of_file i)

size_of_made : (seed d : ℕ) → size (directory_made seed d) ≤ 5912
unfolding size
size_of_made seed d =
    omega (
      arith,
      one_field (codes "mkdir") (path_text (directory_path d)),
      length_of_directory d,
      size_of_parts (file_made seed) 59 (size_of_file seed) (files_in d),
      length-range_with_len (100 * d) 100,
    )

size_of_unlinks : (files : List ℕ) → size (map (λ i. Unlink (file_path i)) files) ≤ 20 * length files
unfolding size
size_of_unlinks [] = omega arith
size_of_unlinks (i ∷ files) =
    omega (arith, one_field (codes "unlink") (path_text (file_path i)), length_of_file i, size_of_unlinks files)

fewer : {X : Type 0} (test : X → Bool) (xs : List X) → length (filter test xs) ≤ length xs
fewer test xs = omega (arith, length-filter test xs, count_by-le-length test xs)

size_of_thinned : (d : ℕ) → size (directory_thinned d) ≤ 2000
size_of_thinned d =
    omega (
      arith,
      size_of_unlinks (filter (λ i. i % 2 == 0) (files_in d)),
      fewer (λ i. i % 2 == 0) (files_in d),
      length-range_with_len (100 * d) 100,
    )

chosen_size : (b : Bool) → size (if b then Commit ∷ [] else []) ≤ 7
unfolding size
chosen_size true = omega arith
chosen_size false = omega arith

-- a script has at most all directories
few_directories : (s : ℕ) → length (enumerate_from 1 (directories_of s)) ≤ 200
few_directories s =
    omega (
      arith,
      length-enumerate_from 1 (directories_of s),
      fewer (λ d. d % 4 == s - 1) (range_with_len 0 200),
      length-range_with_len 0 200,
    )

size_of_each : (done : ℕ → List Command) (most : ℕ) → ((d : ℕ) → size (done d) ≤ most) → (s : ℕ)
    → size (each_directory done s) ≤ (most + 7) * length (enumerate_from 1 (directories_of s))
size_of_each done most each s =
    size_of_parts (λ (e : ℕ × ℕ). done e.1 ++ commit_behind e.0) (most + 7)
    (λ e. omega (arith, size_of_both (done e.1) (commit_behind e.0), each e.1, chosen_size (e.0 % 5 == 0)))
    (enumerate_from 1 (directories_of s))

size_of_script : (seed s : ℕ) → bytes_of (script_lines (script_of seed s)) ≤ 1585207
unfolding bytes_of
size_of_script seed s =
    let made = each_directory (directory_made seed) s in
    let thinned = each_directory directory_thinned s in
    omega (
      arith,
      size_is (made ++ thinned),
      size_of_both made thinned,
      few_directories s,
      size_of_each (directory_made seed) 5912 (size_of_made seed) s,
      size_of_each directory_thinned 2000 size_of_thinned s,
    )

-- ---- the job

bytes_of_four : (a b c d : List (List ℕ))
    → bytes_of (a ++ (b ++ (c ++ (d ++ [])))) ≡ bytes_of a + bytes_of b + bytes_of c + bytes_of d
unfolding bytes_of
bytes_of_four a b c d =
    omega (
      arith,
      bytes_of_both a (b ++ (c ++ (d ++ []))),
      bytes_of_both b (c ++ (d ++ [])),
      bytes_of_both c (d ++ []),
      bytes_of_both d [],
    )

below_the_limit : (all a b c d : ℕ) → all ≡ a + b + c + d → a ≤ 1585207 → b ≤ 1585207 → c ≤ 1585207 → d ≤ 1585207
    → all ≤ 16777216
below_the_limit all a b c d is one two three four = omega (arith, is, one, two, three, four)

workload_is_short : (seed : ℕ) → length (job_text (workload_of seed)) ≤ 16777216
workload_is_short seed =
    below_the_limit _ _ _ _ _
    (length_of_lines (scripts_lines (workload_of seed).scripts)
    ∙ bytes_of_four (script_lines (script_of seed 1)) (script_lines (script_of seed 2))
    (script_lines (script_of seed 3)) (script_lines (script_of seed 4)))
    (size_of_script seed 1) (size_of_script seed 2) (size_of_script seed 3) (size_of_script seed 4)

workload_is_spelled : (seed : ℕ) → job_of (job_text (workload_of seed)) ≡ Ok (workload_of seed)
workload_is_spelled seed = job_again (job_text (workload_of seed)) (workload_of seed)
    (job_spells (workload_of seed)
    (record { scripts = workload_is_lawful seed; short = workload_is_short seed }))

pub job_is_spelled : {E : Type 0} (seed : ℕ) (r : Result Job E) → IfOk r (λ job. job ≡ workload_of seed)
    → IfOk r (λ job. job_of (job_text job) ≡ Ok job)
job_is_spelled seed (Ok job) h = subst (λ (j : Job). job_of (job_text j) ≡ Ok j) (sym h) (workload_is_spelled seed)
job_is_spelled seed (Err e) h = tt
