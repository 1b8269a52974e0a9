-- The counters in a flow's report.
use Rattle.counters.specs.declared.flow_counters.FlowCounters.{FlowCounters}
use Rattle.forwarding.specs.declared.report.FlowReport.{FlowReport}

abbrev pub counters_of : FlowReport → FlowCounters
counters_of r = record { tally = r.tally; driven = r.driven }
