-- How lines and jobs are spelled (docs/scripts.md, "Commands"). Nothing here reads a text.
use Rattle.std.specs.Prelude.{◌≡◌, ◌≢◌, ◌⊎◌, ℕ, ◌-◌, ◌^◌, ◌<◌, ◌≤◌, Bool, true, false, List, [], ◌∷◌, ◌++◌, length, codes, flat_map, Some}
use Rattle.std.specs.List.{AllByRecursion}
use Rattle.r4_content.specs.declared.command.Command.{Command}
use Rattle.r4_content.specs.declared.command.Command.TheVariants.{Create, Mkdir, Write, Fill, Truncate, Read as ReadBytes, Stat, Names, Link, Unlink, Rmdir, Rename, Chmod, Chown, Times, Begin, End, Commit}
use Rattle.r4_script.specs.declared.job.Job.{Job}
use Rattle.r4_script.specs.Field.{digits_from}
use Rattle.r4_script.specs.Progress.{Read, nothing, all_scripts}
use Rattle.r4_script.specs.Split.{split}

-- a number of 1 to so many digits of a base, at most so large
pub record IsNumber (base count most : ℕ) (text : List ℕ) (n : ℕ) : Type 0 where
  pub some : 0 < length text
  pub few : length text ≤ count
  pub value : digits_from base 0 text ≡ Some n
  pub below : n ≤ most

-- a number of decimal digits, and a mode
abbrev pub Decimal : (most : ℕ) → List ℕ → ℕ → Type 0
Decimal most text n = IsNumber 10 20 most text n

abbrev pub Octal : List ℕ → ℕ → Type 0
Octal text n = IsNumber 8 4 4095 text n

-- a byte of a name in a path is above the blank, and is neither 127 nor a slash
pub record IsNameByte (b : ℕ) : Type 0 where
  pub above : 32 < b
  pub plain : b ≢ 127
  pub no_slash : b ≢ 47

-- The path of no names is one slash. Each name of another stands behind a slash, and it is not one empty name.
abbrev pub IsPath : List ℕ → List (List ℕ) → Type 0
IsPath text [] = text ≡ 47 ∷ []
IsPath text (name ∷ names) = (text ≡ flat_map (λ n. 47 ∷ n) (name ∷ names)) × AllByRecursion (AllByRecursion IsNameByte) (name ∷ names) × ((name ∷ names) ≢ [] ∷ [])

-- fields with one blank between them
abbrev pub joined : List (List ℕ) → List ℕ
joined [] = []
joined (f ∷ []) = f
joined (f ∷ g ∷ fields) = f ++ (32 ∷ joined (g ∷ fields))

abbrev pub OnePath : (word line : List ℕ) → List (List ℕ) → Type 0
OnePath word line p = (a : List ℕ) × (IsPath a p × (line ≡ joined (word ∷ a ∷ [])))

abbrev pub TwoPaths : (word line : List ℕ) → List (List ℕ) → List (List ℕ) → Type 0
TwoPaths word line p q = (a : List ℕ) × ((b : List ℕ) × (IsPath a p × IsPath b q × (line ≡ joined (word ∷ a ∷ b ∷ []))))

-- a path and a number
abbrev pub WithNumber : (word line : List ℕ) → List (List ℕ) → (List ℕ → Type 0) → Type 0
WithNumber word line p Number = (a : List ℕ) × ((n : List ℕ) × (IsPath a p × Number n × (line ≡ joined (word ∷ a ∷ n ∷ []))))

-- a path and two numbers
abbrev pub WithTwo : (word line : List ℕ) → List (List ℕ) → (List ℕ → Type 0) → (List ℕ → Type 0) → Type 0
WithTwo word line p First Second = (a : List ℕ) × ((m : List ℕ) × ((n : List ℕ) × (IsPath a p × First m × Second n × (line ≡ joined (word ∷ a ∷ m ∷ n ∷ [])))))

-- a path and three numbers
abbrev pub WithThree : (word line : List ℕ) → List (List ℕ) → (List ℕ → Type 0) → (List ℕ → Type 0) → (List ℕ → Type 0) → Type 0
WithThree word line p First Second Third =
    (a : List ℕ) × ((m : List ℕ) × ((n : List ℕ) × ((o : List ℕ) × (IsPath a p × First m × Second n × Third o × (line ≡ joined (word ∷ a ∷ m ∷ n ∷ o ∷ []))))))

-- the line spells the command
abbrev pub Spells : List ℕ → Command → Type 0
Spells line Begin = line ≡ codes "begin"
Spells line End = line ≡ codes "end"
Spells line Commit = line ≡ codes "commit"
Spells line (Create p oid) = (oid.0 ≡ 0) × OnePath (codes "create") line p
Spells line (Mkdir p oid) = (oid.0 ≡ 0) × OnePath (codes "mkdir") line p
Spells line (Write p offset text) = (length text ≤ 4096) × ((a : List ℕ) × ((o : List ℕ) × (IsPath a p × Decimal (2 ^ 64 - 1) o offset × (line ≡ joined (codes "write" ∷ a ∷ o ∷ text ∷ [])))))
Spells line (Fill p offset len byte) = WithThree (codes "fill") line p (λ t. Decimal (2 ^ 64 - 1) t offset) (λ t. Decimal 1048576 t len) (λ t. Decimal 255 t byte)
Spells line (Truncate p size) = WithNumber (codes "truncate") line p (λ t. Decimal (2 ^ 64 - 1) t size)
Spells line (ReadBytes p offset len) = WithTwo (codes "read") line p (λ t. Decimal (2 ^ 64 - 1) t offset) (λ t. Decimal 65536 t len)
Spells line (Stat p) = OnePath (codes "stat") line p
Spells line (Names p) = OnePath (codes "names") line p
Spells line (Link p q) = TwoPaths (codes "link") line p q
Spells line (Unlink p) = OnePath (codes "unlink") line p
Spells line (Rmdir p) = OnePath (codes "rmdir") line p
Spells line (Rename p q) = TwoPaths (codes "rename") line p q
Spells line (Chmod p mode) = WithNumber (codes "chmod") line p (λ t. Octal t mode)
Spells line (Chown p uid gid) = WithTwo (codes "chown") line p (λ t. Decimal (2 ^ 32 - 1) t uid) (λ t. Decimal (2 ^ 32 - 1) t gid)
Spells line (Times p atime mtime ctime) = WithThree (codes "times") line p (λ t. Decimal (2 ^ 32 - 1) t atime) (λ t. Decimal (2 ^ 32 - 1) t mtime) (λ t. Decimal (2 ^ 32 - 1) t ctime)

-- whether a transaction is open before a command and behind it
abbrev pub Turns : Command → Bool → Bool → Type 0
Turns Begin was is = (was ≡ false) × (is ≡ true)
Turns End was is = (was ≡ true) × (is ≡ false)
Turns Commit was is = (was ≡ false) × (is ≡ false)
Turns command was is = was ≡ is

-- an empty line, or one that begins with `#`
abbrev pub IsSkipped : List ℕ → Type 0
IsSkipped [] = Unit {0}
IsSkipped (b ∷ bytes) = b ≡ 35

-- the line begins the next script
pub record IsScriptLine (r : Read) (line : List ℕ) (q : Read) : Type 0 where
  pub word : line ≡ codes "script"
  pub few : length (all_scripts r) < 64
  pub begins : q ≡ record { scripts = all_scripts r; current = Some []; inside = false }

-- the line is a command of the script
pub record IsCommandLine (r : Read) (line : List ℕ) (q : Read) : Type 0 where
  pub commands : List Command
  pub command : Command
  pub in_script : r.current ≡ Some commands
  pub spells : Spells line command
  pub turns : Turns command r.inside q.inside
  pub adds : q ≡ record { scripts = r.scripts; current = Some (commands ++ command ∷ []); inside = q.inside }

-- what a line makes of what was read before it
abbrev pub IsLine : Read → List ℕ → Read → Type 0
IsLine r line q = (IsSkipped line × (r ≡ q)) ⊎ (IsScriptLine r line q ⊎ IsCommandLine r line q)

-- the same of lines, one after the other
abbrev pub AreLines : Read → List (List ℕ) → Read → Type 0
AreLines r [] q = r ≡ q
AreLines r (line ∷ lines) q = (mid : Read) × (IsLine r line mid × AreLines mid lines q)

-- the text spells the job
pub record SpellsJob (text : List ℕ) (job : Job) : Type 0 where
  pub short : length text ≤ 16777216
  pub all : Read
  pub lines : AreLines nothing (split 10 text) all
  pub scripts : job ≡ record { scripts = all_scripts all }
