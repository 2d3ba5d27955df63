-- `record_fault` meets its contract: it goes by the sort of the record as the definition does.
use Rattle.job_sheet.proofs.faults.record_fault.Goals as goal

pub returns-in-Blocks : goal.returns-in-Blocks
returns-in-Blocks c = rw (c.block_fault.ensures, c.block_from.ensures, c.in-Blocks.is)

pub returns-in-Positions : goal.returns-in-Positions
returns-in-Positions c = rw (c.position_fault.ensures, c.position_from.ensures, c.in-Positions.is)

pub returns-in-Endpoints : goal.returns-in-Endpoints
returns-in-Endpoints c = rw (c.endpoint_fault.ensures, c.endpoint_from.ensures, c.in-Endpoints.is)

pub returns-in-Sinks : goal.returns-in-Sinks
returns-in-Sinks c = rw (c.sink_fault.ensures, c.sink_from.ensures, c.in-Sinks.is)
