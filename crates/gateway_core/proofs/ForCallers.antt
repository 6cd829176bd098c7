-- The facts about the definitions that proofs cite, in the crates above too: the theorems, and steps of their proofs.
pub use Rattle.gateway_core.proofs.SessionLemmas.{crash_after_calls_ends_session, closed_session_leaves_last}
pub use Rattle.gateway_core.proofs.SessionLemmas.{crash_in_input_ends_session, updates_survive_restarts}
pub use Rattle.gateway_core.proofs.ByteLemmas.{inputs_are_of_bytes}
pub use Rattle.gateway_core.proofs.CallLemmas.{calls_are_a_run}
pub use Rattle.gateway_core.proofs.CountLemmas.{saturated_sum-twice, failures_are_counted, applied_packets_are_counted}
pub use Rattle.gateway_core.proofs.ReplyLemmas.{radio_is_reply_or_ordered}
pub use Rattle.gateway_core.proofs.ChunkLemmas.{new_packets-append, new_packets-rest, inputs_of-append}
pub use Rattle.gateway_core.proofs.ChunkLemmas.{cuts_do_not_matter, answers_do_not_depend_on_chunks}
pub use Rattle.gateway_core.proofs.ChunkLemmas.{rest_of-may_become_packet}
pub use Rattle.gateway_core.proofs.ChunkLemmas.{inputs_of-more_events, rest_of-more_events}
pub use Rattle.gateway_core.proofs.HandlesLemmas.{handles-nothing, handles-append, too_long-handled_alike}
pub use Rattle.gateway_core.proofs.PrefixLemmas.{crash_states_are_prefixes, sessions_leave_prefixes}
pub use Rattle.gateway_core.proofs.PrefixLemmas.{prefixes_end_sessions}
pub use Rattle.gateway_core.proofs.RangeLemmas.{leaves_in_range, stays_in_range, reports_in_range}
pub use Rattle.gateway_core.proofs.RunLemmas.{same_failures_give_same_answers}
pub use Rattle.gateway_core.proofs.CrashLemmas.{crash_consistency_composes, crash_consistent-weaker}
pub use Rattle.gateway_core.proofs.ReportingLemmas.{updates_are_reported, answers_to_labels_are_true}
pub use Rattle.gateway_core.proofs.ReportingLemmas.{teach_lines_are_true}
pub use Rattle.gateway_core.proofs.WindowLemmas.{packets_learn_only_in_windows}
