use Rattle.tally_rows.proofs.sort_entry.word_at.Goals as goal

pub returns-clause-bytes : goal.returns-clause-bytes
returns-clause-bytes c = λ i. (c.type_inv.key i).fits
