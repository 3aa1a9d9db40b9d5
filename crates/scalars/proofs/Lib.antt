mod Durations
