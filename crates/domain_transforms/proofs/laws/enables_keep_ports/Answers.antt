use Rattle.domain_transforms.proofs.EnableLaws.{reads_keep, writes_keep}
use Rattle.domain_transforms.proofs.EnabledRows.{rows_keep}
use Rattle.domain_transforms.proofs.laws.enables_keep_ports.Goals as goal

pub returns-clause-writes : goal.returns-clause-writes
returns-clause-writes c = writes_keep

pub returns-clause-rows : goal.returns-clause-rows
returns-clause-rows c = rows_keep

pub returns-clause-reads : goal.returns-clause-reads
returns-clause-reads c = reads_keep
