-- The generated workload (docs/scripts.md, "The generated workload"): 20000 files in 200 directories,
-- by four scripts.
use Rattle.std.specs.Prelude.{ℕ, ◌+◌, ◌-◌, ◌*◌, ◌/◌, ◌%◌, ◌==◌, if◌then◌else◌}
use Rattle.std.specs.Prelude.{List, [], ◌∷◌, ◌++◌, map, flat_map, codes}
use Rattle.std.specs.List.{enumerate_from, filter, range_with_len}
use Rattle.r4_content.specs.declared.command.Command.{Command}
use Rattle.r4_content.specs.declared.command.Command.TheVariants.{Begin, Create, Fill, End, Mkdir, Unlink, Commit}
use Rattle.r4_script.specs.declared.job.Job.{Job}
use Rattle.r4_script.specs.declared.job.Script.{Script}
use Rattle.r4_script.specs.Command.{no_oid}

-- the decimal digits of a number at these units: at 1, at 10, and so on
abbrev pub digits : (units : List ℕ) → ℕ → List ℕ
digits units n = map (λ unit. 48 + n / unit % 10) units

-- the name of a directory has three digits, that of a file five
abbrev pub directory_name : ℕ → List ℕ
directory_name d = codes "d" ++ digits (100 ∷ 10 ∷ 1 ∷ []) d

abbrev pub file_name : ℕ → List ℕ
file_name i = codes "f" ++ digits (10000 ∷ 1000 ∷ 100 ∷ 10 ∷ 1 ∷ []) i

-- below the root, and 100 files in each directory
abbrev pub directory_path : ℕ → List (List ℕ)
directory_path d = directory_name d ∷ []

abbrev pub file_path : ℕ → List (List ℕ)
file_path i = directory_name (i / 100) ∷ file_name i ∷ []

-- in bytes
abbrev pub size_of : (seed i : ℕ) → ℕ
size_of seed i = (37 * i + 101 * (seed % 2000)) % 2000

abbrev pub byte_of : ℕ → ℕ
byte_of i = 97 + i % 26

-- rising
abbrev pub files_in : (d : ℕ) → List ℕ
files_in d = range_with_len (100 * d) 100

-- The script s, from 1 to 4, has every fourth directory, rising.
abbrev pub directories_of : (s : ℕ) → List ℕ
directories_of s = filter (λ d. d % 4 == s - 1) (range_with_len 0 200)

-- a file is made in a transaction
abbrev pub file_made : (seed i : ℕ) → List Command
file_made seed i =
    Begin ∷ Create (file_path i) no_oid ∷ Fill (file_path i) 0 (size_of seed i) (byte_of i) ∷ End ∷ []

abbrev pub directory_made : (seed d : ℕ) → List Command
directory_made seed d = Mkdir (directory_path d) no_oid ∷ flat_map (file_made seed) (files_in d)

-- the files with even numbers go
abbrev pub directory_thinned : (d : ℕ) → List Command
directory_thinned d = map (λ i. Unlink (file_path i)) (filter (λ i. i % 2 == 0) (files_in d))

-- a commit stands behind every fifth directory
abbrev pub commit_behind : (count : ℕ) → List Command
commit_behind n = if n % 5 == 0 then Commit ∷ [] else []

-- what is done to each directory of a script, which are counted from 1
abbrev pub each_directory : (done : ℕ → List Command) → (s : ℕ) → List Command
each_directory done s = flat_map (λ e. done e.1 ++ commit_behind e.0) (enumerate_from 1 (directories_of s))

abbrev pub script_of : (seed s : ℕ) → Script
script_of seed s = record {
  commands = each_directory (directory_made seed) s ++ each_directory directory_thinned s;
}

abbrev pub workload_of : (seed : ℕ) → Job
workload_of seed = record { scripts = map (script_of seed) (1 ∷ 2 ∷ 3 ∷ 4 ∷ []) }
