-- The definition of cuts, worked out on small streams.
use Rattle.std.specs.Prelude.{◌≡◌, ℕ, List, [], ◌∷◌, length, nat_le, cond, codes}
use Rattle.std.proofs.Common.{refl, ap}
use Rattle.explorer_model.specs.Cuts.{Cut, Text, TooLong, Preamble, cuts, is_white_space, preamble, cuts_from, cuts_of, cut_at, parted, onto}

text_at : ℕ → List ℕ → Cut
text_at place bytes = Text (record { place = place; bytes = bytes })

-- each line that begins with an Event tag begins a text, which goes on to the next
two-texts : cuts (codes "[Event \"a\"]\n*\n[Event \"b\"]\n*") ≡ text_at 0 (codes "[Event \"a\"]\n*\n") ∷ text_at 14 (codes "[Event \"b\"]\n*") ∷ []
unfolding text_at cuts cuts_from preamble parted onto is_white_space cuts_of cut_at
two-texts = refl

-- a tag within a line begins none, nor does one of a longer name
one-text : cuts (codes "[Event \"a\"] [Event \"b\"]\n[EventDate \"c\"]\n") ≡ text_at 0 (codes "[Event \"a\"] [Event \"b\"]\n[EventDate \"c\"]\n") ∷ []
unfolding text_at cuts cuts_from preamble parted onto is_white_space cuts_of cut_at
one-text = refl

-- what stands before the first text is refused at its first byte that is no white space
before-the-first : cuts (codes "\n % \n[Event \"a\"]\n") ≡ Preamble 2 ∷ text_at 5 (codes "[Event \"a\"]\n") ∷ []
unfolding text_at cuts cuts_from preamble parted onto is_white_space cuts_of cut_at
before-the-first = refl

-- a byte order mark is skipped, and a line begins behind it
behind-a-mark : cuts (239 ∷ 187 ∷ 191 ∷ codes "[Event \"a\"]\n") ≡ text_at 3 (codes "[Event \"a\"]\n") ∷ []
unfolding text_at cuts cuts_from preamble parted onto is_white_space cuts_of cut_at
behind-a-mark = refl

-- white space alone is no cut
white-space : cuts (codes " \n\t\n") ≡ []
unfolding cuts cuts_from preamble parted onto is_white_space cuts_of
white-space = refl

-- a text of 65536 bytes is read, and one of a byte more is told by its place and its length
longest-text : (text : List ℕ) → length text ≡ 65536 → cut_at 3 text ≡ text_at 3 text
unfolding text_at cut_at
longest-text text size = ap (λ (n : ℕ). cond (nat_le n 65536) (text_at 3 text) (TooLong 3 n)) size

too-long : (text : List ℕ) → length text ≡ 65537 → cut_at 3 text ≡ TooLong 3 65537
unfolding text_at cut_at
too-long text size = ap (λ (n : ℕ). cond (nat_le n 65536) (text_at 3 text) (TooLong 3 n)) size
