-- The replies to the commands whose objects born and gone are counted (`counts_run`).
use Rattle.std.specs.Prelude.{List, [], ◌∷◌}
use Rattle.r4_content.specs.Examples.{d, f}
use Rattle.r4_content.specs.Objects.{new_file, sized}
use Rattle.r4_content.specs.declared.reply.Reply.{Reply}
use Rattle.r4_content.specs.declared.reply.Reply.TheVariants.{Okay, Data, Attr, Names, Exists}
use Rattle.r4_content.specs.declared.reply.Reply.TheVariants.{Notempty}

-- all are done but for the second `create` and the first `rmdir`
abbrev pub counted_replies : List Reply
counted_replies =
    -- begin, create, create, mkdir
    Okay
    ∷ Okay
    ∷ Exists
    ∷ Okay
    -- write, fill, truncate, read, stat, names
    ∷ Okay
    ∷ Okay
    ∷ Okay
    ∷ Data (0 ∷ 7 ∷ 7 ∷ [])
    ∷ Attr (sized new_file 3)
    ∷ Names (d ∷ f ∷ [])
    -- link, chmod, chown, times, unlink, rename
    ∷ Okay
    ∷ Okay
    ∷ Okay
    ∷ Okay
    ∷ Okay
    ∷ Okay
    -- create, rmdir, rename, unlink, rmdir
    ∷ Okay
    ∷ Notempty
    ∷ Okay
    ∷ Okay
    ∷ Okay
    -- end, commit
    ∷ Okay
    ∷ Okay
    ∷ []
