use Rattle.import_run.proofs.FollowedLists.{counts_its_span, follows_journal, follows_list, follows_segments}
use Rattle.import_run.proofs.laws.a_list_that_follows_has_the_journal.Goals as goal

pub returns-clause-journal : goal.returns-clause-journal
returns-clause-journal c = follows_journal

pub returns-clause-list : goal.returns-clause-list
returns-clause-list c = follows_list

pub returns-clause-counts : goal.returns-clause-counts
returns-clause-counts c = counts_its_span

pub returns-clause-segments : goal.returns-clause-segments
returns-clause-segments c = follows_segments
