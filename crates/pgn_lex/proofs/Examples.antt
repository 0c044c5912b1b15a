-- The layout of a text, worked out on small ones (PGN 5 to 8).
use Rattle.std.specs.Prelude.{◌≡◌, [], ◌∷◌, Some, None, Ok, Err, codes}
use Rattle.std.proofs.Common.{refl}
use Rattle.explorer_model.specs.declared.archive.Ending.TheVariants as endings
use Rattle.explorer_model.specs.Items.{Word, Terminates, Dropped, comment_of, ending_of, items, items_from, kind_of_symbol, lead_of, nag_of, name_at, pair_item_of, pair_of, remark_of, string_len, symbol_of, unescaped}
use Rattle.explorer_model.specs.Parts.{meaning, parts}

-- ---- tag pairs

-- a backslash escapes a quote or a backslash
escaped-quote : pair_of (codes "A \"b\\\"c\"]d") ≡ Some (record { name = codes "A"; value = codes "b\"c" }, codes "d")
unfolding pair_of name_at string_len unescaped
escaped-quote = refl

-- before another byte it stands for itself
plain-backslash : pair_of (codes "A\"b\\c\"]") ≡ Some (record { name = codes "A"; value = codes "b\\c" }, [])
unfolding pair_of name_at string_len unescaped
plain-backslash = refl

-- no string goes over the end of a line
string-over-a-line : pair_of (codes "A \"b\nc\"]") ≡ None
unfolding pair_of name_at string_len unescaped
string-over-a-line = refl

-- ---- symbols

digits-are-a-number : kind_of_symbol (codes "12") ≡ Dropped
digits-are-a-number = refl

zeros-are-a-word : kind_of_symbol (codes "0-0") ≡ Word
unfolding ending_of
zeros-are-a-word = refl

a-termination : kind_of_symbol (codes "0-1") ≡ Terminates endings.BlackWins
unfolding ending_of
a-termination = refl

-- ---- whole texts

-- what stands in comments and variations is passed over, and so are numbers and suffixes
tags-tokens-termination :
    parts (codes "[A \"b\"]\n1. e4! {x} (1. d4) e5 1-0")
    ≡ Ok (record {
      tags = record { name = codes "A"; value = codes "b" } ∷ [];
      tokens = record { place = 11; text = codes "e4" } ∷ record { place = 27; text = codes "e5" } ∷ [];
      termination = Some endings.WhiteWins;
    })
unfolding parts meaning items items_from lead_of comment_of remark_of nag_of pair_item_of pair_of name_at string_len unescaped symbol_of ending_of
tags-tokens-termination = refl

-- a word goes on to its end, but it may begin behind the digits of a NAG
word-behind-a-nag : parts (codes "e4 $12-0") ≡ Ok (record { tags = []; tokens = record { place = 0; text = codes "e4" } ∷ record { place = 6; text = codes "-0" } ∷ []; termination = None })
unfolding parts meaning items items_from lead_of nag_of symbol_of ending_of
word-behind-a-nag = refl

-- a text may end without a termination
no-termination : parts (codes "e4 e5") ≡ Ok (record { tags = []; tokens = record { place = 0; text = codes "e4" } ∷ record { place = 3; text = codes "e5" } ∷ []; termination = None })
unfolding parts meaning items items_from lead_of symbol_of ending_of
no-termination = refl

-- a line that begins with a percent sign is passed over
escape-line : parts (codes "%x\ne4 *") ≡ Ok (record { tags = []; tokens = record { place = 3; text = codes "e4" } ∷ []; termination = Some endings.Unknown })
unfolding parts meaning items items_from lead_of remark_of symbol_of ending_of
escape-line = refl

-- elsewhere the sign begins nothing
percent-in-a-line : parts (codes "e4 %x") ≡ Err (record { place = 3 })
unfolding parts meaning items items_from lead_of symbol_of ending_of
percent-in-a-line = refl

-- a brace comment ends at the first closing brace
comments-do-not-nest : parts (codes "{a {b} c} *") ≡ Err (record { place = 8 })
unfolding parts meaning items items_from lead_of comment_of symbol_of ending_of
comments-do-not-nest = refl

-- a variation that is not closed is told at its outermost parenthesis
open-variation : parts (codes "e4 (e5 (d5 *") ≡ Err (record { place = 3 })
unfolding parts meaning items items_from lead_of symbol_of ending_of
open-variation = refl

-- tag pairs stand before the moves, and nothing stands behind the termination
pair-behind-a-move : parts (codes "e4 [A \"b\"]") ≡ Err (record { place = 3 })
unfolding parts meaning items items_from lead_of pair_item_of pair_of name_at string_len unescaped symbol_of ending_of
pair-behind-a-move = refl

behind-the-termination : parts (codes "* e4") ≡ Err (record { place = 2 })
unfolding parts meaning items items_from lead_of symbol_of ending_of
behind-the-termination = refl
