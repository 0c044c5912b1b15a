use Rattle.std.proofs.Common.{rules, refl}
use Rattle.tally_rows.proofs.sort_entry.SortEntry.of.Goals as goal

pub returns-clause-parts : goal.returns-clause-parts
returns-clause-parts c = record {
  long = search rules;
  bytes = c.word_at.ensures.bytes;
  year = c.rest_of.ensures.year;
  month = c.rest_of.ensures.month;
  first = c.word_at.ensures.value;
  second = c.word_at-2.ensures.value;
  third = c.word_at-3.ensures.value;
  fourth = c.word_at-4.ensures.value;
  rest = c.rest_of.ensures.value;
  group = refl;
}
