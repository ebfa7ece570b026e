-- The words of commands.
use Rattle.std.proofs.Common.{◌≡◌, ℕ, Bool, true, false, cond, List, codes, Option, Some, None, refl, ap, ◌∙◌, Decides}
use Rattle.std.proofs.lemmas.Slice.Eq.{bytes_eq-Decides}
use Rattle.std.specs.Str.{bytes_eq}
use Rattle.r4_script.specs.declared.word.Verb.{Verb}
use Rattle.r4_script.specs.declared.word.Verb.TheVariants.{Script, Begin, End, Commit, Create, Mkdir, Write, Fill, Truncate, Read, Stat, Names, Link, Unlink, Rmdir, Rename, Chmod, Chown, Times}
use Rattle.r4_script.specs.Word.{verb_of}

-- the word of a verb
abbrev pub word_of : Verb → List ℕ
word_of Script = codes "script"
word_of Begin = codes "begin"
word_of End = codes "end"
word_of Commit = codes "commit"
word_of Create = codes "create"
word_of Mkdir = codes "mkdir"
word_of Write = codes "write"
word_of Fill = codes "fill"
word_of Truncate = codes "truncate"
word_of Read = codes "read"
word_of Stat = codes "stat"
word_of Names = codes "names"
word_of Link = codes "link"
word_of Unlink = codes "unlink"
word_of Rmdir = codes "rmdir"
word_of Rename = codes "rename"
word_of Chmod = codes "chmod"
word_of Chown = codes "chown"
word_of Times = codes "times"

step : (w word : List ℕ) (x v : Verb) (rest : Option Verb) → word ≡ word_of x → (rest ≡ Some v → w ≡ word_of v) → cond (bytes_eq w word) (Some x) rest ≡ Some v → w ≡ word_of v
step w word x v rest is more e = go (bytes_eq w word) (bytes_eq-Decides w word) e
  where
    some_is : (x v : Verb) → Some x ≡ Some v → x ≡ v
    some_is x v e = cc

    go : (b : Bool) → Decides b (w ≡ word) → cond b (Some x) rest ≡ Some v → w ≡ word_of v
    go true d e = d.0 refl ∙ is ∙ ap word_of (some_is x v e)
    go false d e = more e

pub verb_is : (w : List ℕ) (v : Verb) → verb_of w ≡ Some v → w ≡ word_of v
verb_is w v e =
    (step w (codes "script") Script v _ refl (step w (codes "begin") Begin v _ refl (step w (codes "end") End v _ refl (step w (codes "commit") Commit v _ refl (step w (codes "create") Create v _ refl (step w (codes "mkdir") Mkdir v _ refl (step w (codes "write") Write v _ refl (step w (codes "fill") Fill v _ refl (step w (codes "truncate") Truncate v _ refl (step w (codes "read") Read v _ refl (step w (codes "stat") Stat v _ refl (step w (codes "names") Names v _ refl (step w (codes "link") Link v _ refl (step w (codes "unlink") Unlink v _ refl (step w (codes "rmdir") Rmdir v _ refl (step w (codes "rename") Rename v _ refl (step w (codes "chmod") Chmod v _ refl (step w (codes "chown") Chown v _ refl (step w (codes "times") Times v _ refl (λ (none : None ≡ Some v). absurd cc)))))))))))))))))))) e
