mod Laps
